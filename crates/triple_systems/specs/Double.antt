-- Blocks of three points in which each two points stand together twice.
use Rattle.std.proofs.Common.{[], cond, ◌++◌, ◌∷◌}
use Rattle.std.specs.Prelude.{List, ℕ, ◌%◌, ◌+◌, ◌/◌, ◌==◌}
use Rattle.counting.specs.Sums.{join_below}
use Rattle.triple_systems.specs.Squares.{idempotent}
use Rattle.triple_systems.specs.declared.triples.Pairs.TheVariants.{Ordered}
use Rattle.triple_systems.specs.Triples.{columns, infinite_triples, levels}

-- ten blocks on six points, two for each c below m = 5
unfoldable pub six_point_blocks : ℕ → List (List ℕ)
six_point_blocks m = join_below m (λ c. (5 ∷ c ∷ (c + 2) % 5 ∷ []) ∷ (c ∷ (c + 1) % 5 ∷ (c + 2) % 5 ∷ []) ∷ [])

-- each column of three groups of n points twice; or, with the infinite point, the four triples of it and the column
unfoldable pub double_columns : ℕ → ℕ → List (List ℕ)
double_columns n rest = columns n n ++ cond (rest == 0) (columns n n) (infinite_triples n 0 n 3)

-- with three groups of n = v / 3 points, and one more where 3 does not divide v: the columns, and above each ordered pair
-- of each group their product in the next group; the square has no order 2, so six points have a list of their own
unfoldable pub double_blocks : ℕ → List (List ℕ)
double_blocks v = cond (v == 6) (six_point_blocks 5) (let n = v / 3 in double_columns n (v % 3) ++ levels Ordered n (idempotent n) 3)
