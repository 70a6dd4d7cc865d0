-- The points of the columns so far.
use Rattle.std.proofs.Common.{length, map, slice_index, take, ◌+◌, ◌≡◌}
use Rattle.design_base.specs.Arrays.{row_block}
use Rattle.transversal.proofs.blocks.write_raised.Given as goal

abbrev pub invariant-loop-j : goal.invariant-loop-j
invariant-loop-j l = record {
  size : length l.block ≡ length l.fn.block;
  points : take l.j l.block ≡ row_block l.j l.n (slice_index (map (λ x. l.c + x) l.row));
}
