-- The difference families that are listed one by one, each in canonical form. This is the one table of them: the code's is proved
-- to be the same.
use Rattle.std.proofs.Common.{get_or}
use Rattle.std.specs.Prelude.{ℕ, List, [], ◌∷◌, ◌-◌}
use Rattle.design_base.specs.declared.query.Group.{Group}
use Rattle.design_base.specs.declared.query.Group.TheVariants.{Cyclic, Field}

-- a family of base blocks of k elements over the group of v elements, in which each element but 0 is the difference of l pairs
pub record Family : Type 0 where
  pub group : Group
  pub v : ℕ
  pub k : ℕ
  pub l : ℕ
  pub blocks : List (List ℕ)

abbrev pub family : Group → ℕ → ℕ → ℕ → List (List ℕ) → Family
family group v k l blocks = record { group = group; v = v; k = k; l = l; blocks = blocks }

unfoldable pub families : List Family
families =
    family Cyclic 7 3 1 ((0 ∷ 1 ∷ 3 ∷ []) ∷ []) ∷
    family Cyclic 13 4 1 ((0 ∷ 1 ∷ 3 ∷ 9 ∷ []) ∷ []) ∷
    family Cyclic 15 7 3 ((0 ∷ 1 ∷ 2 ∷ 4 ∷ 5 ∷ 8 ∷ 10 ∷ []) ∷ []) ∷
    family Field 16 6 2 ((3 ∷ 7 ∷ 11 ∷ 12 ∷ 13 ∷ 14 ∷ []) ∷ []) ∷
    family Cyclic 21 5 1 ((0 ∷ 1 ∷ 4 ∷ 14 ∷ 16 ∷ []) ∷ []) ∷
    family Field 25 4 1 ((0 ∷ 1 ∷ 5 ∷ 12 ∷ []) ∷ (0 ∷ 2 ∷ 10 ∷ 24 ∷ []) ∷ []) ∷
    family Cyclic 31 6 1 ((0 ∷ 1 ∷ 3 ∷ 8 ∷ 12 ∷ 18 ∷ []) ∷ []) ∷
    family Cyclic 37 4 1 ((0 ∷ 1 ∷ 3 ∷ 24 ∷ []) ∷ (0 ∷ 4 ∷ 26 ∷ 32 ∷ []) ∷ (0 ∷ 10 ∷ 18 ∷ 30 ∷ []) ∷ []) ∷
    family Cyclic 41 5 1 ((0 ∷ 1 ∷ 4 ∷ 11 ∷ 29 ∷ []) ∷ (0 ∷ 2 ∷ 8 ∷ 17 ∷ 22 ∷ []) ∷ []) ∷
    family Cyclic 57 8 1 ((0 ∷ 1 ∷ 3 ∷ 13 ∷ 32 ∷ 36 ∷ 43 ∷ 52 ∷ []) ∷ []) ∷
    family Cyclic 61 5 1 ((0 ∷ 1 ∷ 3 ∷ 13 ∷ 34 ∷ []) ∷ (0 ∷ 4 ∷ 9 ∷ 23 ∷ 45 ∷ []) ∷ (0 ∷ 6 ∷ 17 ∷ 24 ∷ 32 ∷ []) ∷ []) ∷ []

-- the n-th of them, from 1
unfoldable pub family_at : ℕ → Family
family_at n = get_or families (n - 1) (family Cyclic 0 0 0 [])
