-- What each construction needs: its numbers within their ranges, and the designs that it is made of.
use Rattle.std.specs.Prelude.{ℕ, ◌+◌, ◌*◌, ◌≤◌, ◌≡◌, List, true}
use Rattle.design_base.specs.Blocks.{IsTd}
use Rattle.design_base.specs.Fields.{has_field}
use Rattle.design_base.specs.declared.limits.TheConstants.{TD_K_MAX, TD_N_MAX}

-- k groups of one point
pub record CanBuildOne (k : ℕ) : Type 0 where
  pub two_groups : 2 ≤ k
  pub groups : k ≤ TD_K_MAX

-- k columns of the addition table modulo n
pub record CanBuildCyclic (k n : ℕ) : Type 0 where
  pub two_groups : 2 ≤ k
  pub columns : k ≤ 3
  pub one_point : 1 ≤ n
  pub points : n ≤ TD_N_MAX

-- k columns of the lines over the field of q elements
pub record CanBuildField (k q : ℕ) : Type 0 where
  pub two_groups : 2 ≤ k
  pub groups : k ≤ TD_K_MAX
  pub columns : k ≤ q + 1
  pub listed : has_field q ≡ true
  pub points : q ≤ TD_N_MAX

-- the product of a design A with groups of a points and a design B with groups of b points
pub record CanMultiply (k a b : ℕ) (A B : List (List ℕ)) : Type 0 where
  pub two_groups : 2 ≤ k
  pub groups : k ≤ TD_K_MAX
  pub first_points : 1 ≤ a
  pub second_points : 1 ≤ b
  pub points : a * b ≤ TD_N_MAX
  pub first : IsTd A k a
  pub second : IsTd B k b

-- Parker's construction from a design A of four groups of m points
pub record CanUseParker (m : ℕ) (A : List (List ℕ)) : Type 0 where
  pub one_point : 1 ≤ m
  pub points : 3 * m + 1 ≤ TD_N_MAX
  pub inner : IsTd A 4 m
