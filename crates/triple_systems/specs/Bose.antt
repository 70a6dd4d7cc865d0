-- The Bose construction.
use Rattle.std.specs.Prelude.{List, ℕ, ◌++◌, ◌/◌}
use Rattle.triple_systems.specs.Squares.{half_sum}
use Rattle.triple_systems.specs.declared.triples.Pairs.TheVariants.{Unordered}
use Rattle.triple_systems.specs.Triples.{columns, levels}

-- with three groups of n = v / 3 points: the column of each x, and above each pair x < y of each group their half sum in the next group
unfoldable pub bose_blocks : ℕ → List (List ℕ)
bose_blocks v = let n = v / 3 in columns n n ++ levels Unordered n (half_sum n) 3
