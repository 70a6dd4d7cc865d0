use Rattle.std.proofs.Common.{inl, inr, sym, arith, length, ◌∙◌, ◌<◌}
use Rattle.counting.proofs.Booleans.{eqb-true}
use Rattle.std.proofs.lemmas.Grind.{common_steps}
use Rattle.block_texts.proofs.Shortened.{row_kept, row_not_kept}
use Rattle.block_texts.proofs.blocks.push_until_short.Goals.{then-is_empty-via-then-is_empty, then-is_empty-via-else-is_empty+then-ends_short}
use Rattle.block_texts.proofs.blocks.push_until_short.Goals as goal

pub returns-then-is_empty-clause-row : goal.returns-then-is_empty-clause-row
returns-then-is_empty-clause-row c = row_not_kept c.args.least c.args.rows.now c.args.row.now c.requires.short (elim c.then-is_empty.branch [
  | then-is_empty-via-then-is_empty w ↦ inl (eqb-true (length c.args.row.now) 0 (sym c.is_empty.ensures ∙ w.if-is_empty.true))
  | then-is_empty-via-else-is_empty+then-ends_short w ↦ inr (sym w.ends_short.ensures ∙ w.if-ends_short.true)
])

pub returns-clause-row : goal.returns-clause-row
returns-clause-row c =
    let some : 0 < length c.args.row.now = grind (arith, common_steps) in
    c.in_ok-push_row.ensures.ok ∙ row_kept c.args.least c.args.rows.now c.args.row.now some (sym c.ends_short.ensures ∙ c.if-ends_short.false)
