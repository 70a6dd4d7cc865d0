-- Designs of all points, of all pairs and of all points but one, and complements.
use Rattle.std.proofs.Common.{[], cond, ◌∷◌}
use Rattle.std.specs.Prelude.{Bool, List, map, not, ℕ, ◌-◌, ◌/◌, ◌==◌}
use Rattle.counting.specs.Sums.{join_below, list_below}
use Rattle.design_base.specs.Blocks.{holds}

-- the numbers below n that pass a test
unfoldable pub kept : ℕ → (ℕ → Bool) → List ℕ
kept n p = join_below n (λ x. cond (p x) (x ∷ []) [])

-- the points below v that are not in the block
unfoldable pub missing : ℕ → List ℕ → List ℕ
missing v block = kept v (λ x. not (holds x block))

-- the complement of each block
unfoldable pub complement : ℕ → List (List ℕ) → List (List ℕ)
complement v B = map (missing v) B

-- the block of all points, l times
unfoldable pub whole_blocks : ℕ → ℕ → List (List ℕ)
whole_blocks v l = list_below l (λ i. list_below v (λ x. x))

-- the pairs of y and each x below m
unfoldable pub pairs_with : ℕ → ℕ → List (List ℕ)
pairs_with y m = list_below m (λ x. x ∷ y ∷ [])

-- each pair of points once
unfoldable pub pairs_once : ℕ → List (List ℕ)
pairs_once v = join_below v (λ y. pairs_with y y)

-- each pair of points l times
unfoldable pub pair_blocks : ℕ → ℕ → List (List ℕ)
pair_blocks v l = join_below l (λ i. pairs_once v)

-- all points but z, for each z below m
unfoldable pub all_but_one : ℕ → ℕ → List (List ℕ)
all_but_one v m = list_below m (λ z. kept v (λ x. not (x == z)))

-- all points but one, for each point m times
unfoldable pub omitted : ℕ → ℕ → List (List ℕ)
omitted v m = join_below m (λ i. all_but_one v v)

-- all points but one, for each point l / (v - 2) times
abbrev pub omit_blocks : ℕ → ℕ → List (List ℕ)
omit_blocks v l = omitted v (l / (v - 2))
