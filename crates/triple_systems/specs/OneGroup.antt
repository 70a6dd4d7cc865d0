-- Two numbers and their product as a block: all points are in the group 0.
use Rattle.std.specs.Prelude.{List, ℕ}
use Rattle.triple_systems.specs.Squares.{half_sum, idempotent}
use Rattle.triple_systems.specs.declared.triples.Pairs.TheVariants.{Ordered, Unordered}
use Rattle.triple_systems.specs.Triples.{triples_above}

-- above each pair x < y of v points their half sum
unfoldable pub middle_blocks : ℕ → List (List ℕ)
middle_blocks v = triples_above Unordered v (half_sum v) 0 0 v

-- above each ordered pair of v points their product
unfoldable pub ordered_blocks : ℕ → List (List ℕ)
ordered_blocks v = triples_above Ordered v (idempotent v) 0 0 v
