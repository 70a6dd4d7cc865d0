-- Symmetric designs, which have as many blocks as points, and the two smaller designs that each of their blocks gives, as in Stinson's
-- Combinatorial Designs.
use Rattle.std.specs.Prelude.{ℕ, ◌-◌, ◌*◌, ◌<◌, ◌≤◌, ◌≡◌, List, [], filter, map, not, remove, slice_index_or}
use Rattle.counting.specs.Sums.{list_below}
use Rattle.design_base.specs.Blocks.{IsBibd, holds}
use Rattle.spaces.specs.Lines.{points_in}

-- the numbers of a symmetric design: each point stands in k blocks
pub record AreSymmetric (v k l : ℕ) : Type 0 where
  pub two : 2 ≤ k
  pub less : k < v
  pub some : 1 ≤ l
  pub equation : l * (v - 1) ≡ k * (k - 1)

pub record IsSymmetric (B : List (List ℕ)) (v k l : ℕ) : Type 0 where
  pub numbers : AreSymmetric v k l
  pub design : IsBibd B v k l

-- the points below v that are not in the block
unfoldable pub points_outside : ℕ → List ℕ → List ℕ
points_outside v block = filter (λ x. not (holds x block)) (list_below v (λ x. x))

-- of each block but that at place i those of the points P that it holds, by their places in P
unfoldable pub parts_in : List ℕ → List (List ℕ) → ℕ → List (List ℕ)
parts_in P B i = map (points_in P) (remove B i)

-- of each other block the points outside block i
abbrev pub residual_blocks : ℕ → List (List ℕ) → ℕ → List (List ℕ)
residual_blocks v B i = parts_in (points_outside v (slice_index_or B i [])) B i

-- of each other block the points in block i
abbrev pub derived_blocks : List (List ℕ) → ℕ → List (List ℕ)
derived_blocks B i = parts_in (slice_index_or B i []) B i
