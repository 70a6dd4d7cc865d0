-- The translates of base blocks: each element of the group added to each block.
use Rattle.std.specs.Prelude.{ℕ, List, flat_map, map}
use Rattle.counting.specs.Sums.{list_below}
use Rattle.design_base.specs.Meets.{group_add}
use Rattle.design_base.specs.declared.query.Group.{Group}

-- the block with c added, for each c below n
unfoldable pub translates_below : ℕ → (ℕ → ℕ → ℕ) → List ℕ → List (List ℕ)
translates_below n add block = list_below n (λ c. map (λ x. add x c) block)

-- the translates of each base block by all elements of the group of v elements
unfoldable pub developed : Group → ℕ → List (List ℕ) → List (List ℕ)
developed group v B = flat_map (translates_below v (group_add group v)) B
