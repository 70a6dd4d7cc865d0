-- The squares so far.
use Rattle.std.proofs.Common.{◌≡◌, ◌*◌, ◌+◌}
use Rattle.counting.specs.Sums.{join_below}
use Rattle.incidence.specs.Packed.{size_of}
use Rattle.arrays.specs.Arrays.{rows_of_td, square_of_column}
use Rattle.arrays.proofs.rows.squares_of_td.Given as goal

abbrev pub invariant-loop-s : goal.invariant-loop-s
invariant-loop-s l = record {
  squares : l.squares ≡ join_below l.s (λ s. square_of_column l.n (rows_of_td l.n l.td) (s + 2));
  size : size_of l.squares ≡ l.s * (l.n * (l.n + 1));
}
