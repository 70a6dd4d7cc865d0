use Rattle.std.proofs.Common.{rules, arith, ap, sym, ◌∙◌, subst}
use Rattle.std.specs.Prelude.{Some}
use Rattle.memo_cells.specs.Knowledge.{KnowsAll, PassState}
use Rattle.rule_table.specs.Asked.{asked}
use Rattle.memo_cells.proofs.TableSteps.{publish_allowed}
use Rattle.memo_cells.proofs.cells.Cells.publish.Goals as goal

pub compare_exchange-requires : goal.compare_exchange-requires
compare_exchange-requires c =
    let knows = subst (λ (p : PassState). KnowsAll p.knowledge.known (asked c.args.q.now)) (sym c.pass.view_is) c.requires.grounded in (
      search rules,
      omega (arith, c.self.invariant, c.cell_of.ensures.within),
      publish_allowed _ _ _ c.args.q.now _ _ c.cell_of.ensures.value (record { bounds = c.requires.bounds; told = c.code.ensures.back ∙ ap Some c.requires.told; grounded = knows }),
    )
