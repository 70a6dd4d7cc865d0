use Rattle.std.proofs.Common.{[], arith, ◌∷◌}
use Rattle.design_base.specs.Arrays.{IsRow}
use Rattle.counting.proofs.Lists.{left_after}
use Rattle.incidence.proofs.RowsAndBlocks.{room_next, size_of_rows, steps}
use Rattle.incidence.proofs.arrays.blocks_of_rows.Goals as goal

pub push_block-requires-clause-room : goal.push_block-requires-clause-room
push_block-requires-clause-room c = omega (
  arith,
  room_next c.args.k c.args.n c.loop-row.list [] (c.in-Some.row.now ∷ []) c.next.new.self c.args.rows.now (grind (arith, steps)),
  size_of_rows c.args.k c.args.n c.args.rows.now c.requires.rows,
  c.len.ensures.small,
)

pub loop-row-preserved : goal.loop-row-preserved
loop-row-preserved c = record {
  blocks = grind (arith, steps);
  left = left_after (IsRow c.args.k c.args.n) c.loop-row.row-iterator c.in-Some.row.now c.next.new.self (grind arith) c.loop-row.invariant.left;
}
