-- The rows so far.
use Rattle.std.proofs.Common.{◌≡◌, ◌*◌, ◌+◌, ◌++◌}
use Rattle.counting.specs.Sums.{list_below}
use Rattle.incidence.specs.Packed.{size_of}
use Rattle.arrays.specs.Arrays.{row_of_column}
use Rattle.arrays.proofs.rows.push_square.Given as goal

abbrev pub invariant-loop-x : goal.invariant-loop-x
invariant-loop-x l = record {
  squares : l.squares ≡ l.fn.squares ++ list_below l.x (row_of_column l.n l.rows l.j);
  size : size_of l.squares ≡ size_of l.fn.squares + l.x * (l.n + 1);
}
