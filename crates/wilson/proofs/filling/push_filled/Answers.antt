use Rattle.std.proofs.Common.{[], ap, arith, length, ◌*◌, ◌+◌, ◌∷◌}
use Rattle.design_base.specs.Arrays.{IsRow}
use Rattle.counting.proofs.Lists.{left_after}
use Rattle.incidence.proofs.RowsAndBlocks.{room_next}
use Rattle.wilson.proofs.Steps.{filled_rows_length, steps}
use Rattle.wilson.proofs.filling.push_filled.Goals as goal
use Rattle.wilson.specs.Truncations.{filled_row, filled_rows}

pub push_filled_row-requires-clause-room : goal.push_filled_row-requires-clause-room
push_filled_row-requires-clause-room c = omega (
  arith,
  room_next c.args.k c.args.n c.loop-row.rows c.args.rows.now (filled_row c.args.k c.args.m c.args.infinite.now c.args.master.now c.in-Some.row.now ∷ [])
      (filled_rows c.args.k c.args.m c.args.infinite.now c.args.master.now c.next.new.self) (filled_rows c.args.k c.args.m c.args.infinite.now c.args.master.now c.args.ingredient.now) (grind (arith, steps)),
  ap (λ rows. (c.args.k + 1) * rows) (filled_rows_length c.args.k c.args.m c.args.infinite.now c.args.master.now c.args.ingredient.now),
  c.requires.room,
)

pub loop-row-preserved : goal.loop-row-preserved
loop-row-preserved c = record {
  blocks = grind (arith, steps);
  left = left_after (IsRow c.args.k (c.args.m + length c.args.infinite.now)) c.loop-row.row-iterator c.in-Some.row.now c.next.new.self (grind arith) c.loop-row.invariant.left;
}
