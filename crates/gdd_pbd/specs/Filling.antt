-- Designs put into the groups of another.
use Rattle.std.proofs.Common.{[], cond, ◌++◌, ◌∷◌}
use Rattle.std.specs.Prelude.{List, map, nat_lt, slice_index, ℕ, ◌%◌, ◌/◌}
use Rattle.counting.specs.Sums.{join_below}
use Rattle.design_base.specs.Arrays.{place}

-- each point x renamed f x
unfoldable pub rename : (ℕ → ℕ) → List (List ℕ) → List (List ℕ)
rename f B = map (map f) B

-- the blocks of G, and in each of u groups of g points the blocks of D
unfoldable pub fill : ℕ → ℕ → List (List ℕ) → List (List ℕ) → List (List ℕ)
fill g u G D = G ++ join_below u (λ j. rename (place g j) D)

-- point p below g of group j, and for p = g the one point after all groups
unfoldable pub with_point : ℕ → ℕ → ℕ → ℕ → ℕ
with_point g u j p = cond (nat_lt p g) (place g j p) (place g u 0)

-- the blocks of G, and in each of u groups of g points and the one point more the blocks of D
unfoldable pub fill_with_point : ℕ → ℕ → List (List ℕ) → List (List ℕ) → List (List ℕ)
fill_with_point g u G D = G ++ join_below u (λ j. rename (with_point g u j) D)

-- ---- what all of them and weighting come to

-- for the block x_0, x_1, .. the point i of group c becomes the point i of group x_c
unfoldable pub place_by : ℕ → List ℕ → ℕ → ℕ
place_by w b p = place w (slice_index b (p / w)) (p % w)

-- in each of the first m groups of g points, and the first point of group u, the blocks of D
unfoldable pub groups_of : ℕ → ℕ → List (List ℕ) → ℕ → List (List ℕ)
groups_of g u D m = join_below m (λ j. rename (place_by g (j ∷ u ∷ [])) D)
