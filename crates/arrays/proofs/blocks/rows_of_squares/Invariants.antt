-- The rows so far.
use Rattle.std.proofs.Common.{◌≡◌, ◌*◌, ◌+◌}
use Rattle.counting.specs.Sums.{join_below, list_below}
use Rattle.incidence.specs.Packed.{size_of}
use Rattle.arrays.specs.Arrays.{row_of_cell}
use Rattle.arrays.proofs.blocks.rows_of_squares.Given as goal

abbrev pub invariant-loop-x : goal.invariant-loop-x
invariant-loop-x l = record {
  rows : l.rows ≡ join_below l.x (λ x. list_below l.n (row_of_cell l.m l.n l.squares x));
  size : size_of l.rows ≡ l.x * (l.n * (l.m + 3));
}
