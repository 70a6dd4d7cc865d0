use Rattle.std.proofs.Common.{[], ap, arith, get_or, sym, ◌*◌, ◌+◌}
use Rattle.std.proofs.lemmas.Option.{get_or_from_slice_get}
use Rattle.incidence.proofs.RowsAndBlocks.{front_next}
use Rattle.arrays.proofs.rows.write_row.Goals as goal

pub loop-y-preserved : goal.loop-y-preserved
loop-y-preserved c =
    let place = c.args.x * c.args.n + c.loop-y.y in
    front_next (λ y. get_or (get_or c.args.rows.now (c.args.x * c.args.n + y) []) c.args.j 0) c.loop-y.row c.loop-y.y _ (omega arith) c.loop-y.invariant
    (ap (λ row. get_or row c.args.j 0) (sym (get_or_from_slice_get c.args.rows.now place c.row.result.now [] c.row.ensures)))
