-- The points of the columns so far.
use Rattle.std.proofs.Common.{length, slice_index, take, ◌+◌, ◌≡◌}
use Rattle.design_base.specs.Arrays.{row_block}
use Rattle.transversal.proofs.lines.write_line.Given as goal
use Rattle.transversal.specs.Constructions.{field_row}

abbrev pub invariant-loop-j : goal.invariant-loop-j
invariant-loop-j l = record {
  size : length l.block ≡ length l.fn.block;
  points : take (l.j + 1) l.block ≡ row_block (l.j + 1) l.field (slice_index (field_row l.k l.field l.x l.y));
}
