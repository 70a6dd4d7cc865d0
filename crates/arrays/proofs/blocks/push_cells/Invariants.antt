-- The rows so far.
use Rattle.std.proofs.Common.{◌≡◌, ◌*◌, ◌+◌, ◌++◌}
use Rattle.counting.specs.Sums.{list_below}
use Rattle.incidence.specs.Packed.{size_of}
use Rattle.arrays.specs.Arrays.{row_of_cell}
use Rattle.arrays.proofs.blocks.push_cells.Given as goal

abbrev pub invariant-loop-y : goal.invariant-loop-y
invariant-loop-y l = record {
  rows : l.rows ≡ l.fn.rows ++ list_below l.y (row_of_cell l.m l.n l.squares l.x);
  size : size_of l.rows ≡ size_of l.fn.rows + l.y * (l.m + 3);
}
