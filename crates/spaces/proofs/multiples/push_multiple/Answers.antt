use Rattle.std.proofs.Common.{[], ap, arith, ◌++◌, ◌∷◌, ◌∙◌}
use Rattle.spaces.proofs.EntrySteps.{length-made, made_multiple}
use Rattle.spaces.proofs.multiples.push_multiple.Goals as goal

pub push_row-requires : goal.push_row-requires
push_row-requires c = omega (
  arith,
  length-made c.args.field.now c.args.n _ c.deref.result.now (omega (arith, c.requires.factor))
      (made_multiple c.args.field.now c.order.result c.args.n c.args.t c.args.x c.combination-multiple.result c.deref.result.now c.order.ensures.listed c.order.ensures.order c.combination-multiple.ensures.value (c.deref.ensures.value ∙ c.in_ok-write_entries.ensures)),
  c.requires.room,
)

pub returns-clause-ok : goal.returns-clause-ok
returns-clause-ok c = c.in_ok-push_row.ensures.ok ∙ ap (λ e. c.args.rows.now ++ e ∷ [])
    (made_multiple c.args.field.now c.order.result c.args.n c.args.t c.args.x c.combination-multiple.result c.deref.result.now c.order.ensures.listed c.order.ensures.order c.combination-multiple.ensures.value (c.deref.ensures.value ∙ c.in_ok-write_entries.ensures))

pub returns-clause-size : goal.returns-clause-size
returns-clause-size c = omega (
  arith,
  length-made c.args.field.now c.args.n _ c.deref.result.now (omega (arith, c.requires.factor))
      (made_multiple c.args.field.now c.order.result c.args.n c.args.t c.args.x c.combination-multiple.result c.deref.result.now c.order.ensures.listed c.order.ensures.order c.combination-multiple.ensures.value (c.deref.ensures.value ∙ c.in_ok-write_entries.ensures)),
  c.in_ok-push_row.ensures.size,
)
