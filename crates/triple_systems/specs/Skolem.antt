-- The Skolem construction.
use Rattle.std.specs.Prelude.{List, ℕ, ◌++◌, ◌/◌}
use Rattle.triple_systems.specs.Squares.{half_idempotent}
use Rattle.triple_systems.specs.declared.triples.Pairs.TheVariants.{Unordered}
use Rattle.triple_systems.specs.Triples.{columns, infinite_triples, levels}

-- with three groups of n = v / 3 = 2t points and the infinite point: the column of each x below t, the triples of the infinite point, x + t and x,
-- and above each pair x < y of each group their product in the next group
unfoldable pub skolem_blocks : ℕ → List (List ℕ)
skolem_blocks v = let n = v / 3 in let t = n / 2 in (columns n t ++ infinite_triples n t t 3) ++ levels Unordered n (half_idempotent t) 3
