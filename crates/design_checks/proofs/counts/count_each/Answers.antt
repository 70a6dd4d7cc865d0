use Rattle.std.proofs.Common.{[], arith, subst}
use Rattle.std.proofs.lemmas.Option.{get_or_from_slice_get}
use Rattle.design_checks.proofs.RowByRow.{row_counted, row_fits}
use Rattle.design_checks.specs.Counts.{IsRowOf}
use Rattle.design_checks.proofs.counts.count_each.Goals as goal

pub count_row-requires-clause-row : goal.count_row-requires-clause-row
count_row-requires-clause-row c =
    subst (IsRowOf c.args.v) (get_or_from_slice_get c.args.rows.now c.loop-i.i c.row.result.now [] c.row.ensures) (c.requires.rows c.loop-i.i [] (omega arith))

pub count_row-requires-clause-small : goal.count_row-requires-clause-small
count_row-requires-clause-small c =
    row_fits c.args.rows.now c.loop-i.i c.row.result.now c.row.ensures c.args.v c.args.low c.args.high c.loop-i.counts c.loop-i.invariant c.len-i-end.ensures.small

pub loop-i-preserved : goal.loop-i-preserved
loop-i-preserved c =
    row_counted c.args.rows.now c.loop-i.i c.row.result.now c.row.ensures c.args.v c.args.low c.args.high c.loop-i.counts c.loop-i.invariant c.count_row.new.counts c.count_row.ensures
