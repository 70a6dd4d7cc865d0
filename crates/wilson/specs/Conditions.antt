-- What Wilson's constructions need: their numbers within their ranges, and the designs that they are made of.
use Rattle.std.specs.Prelude.{ℕ, ◌+◌, ◌*◌, ◌≤◌, List}
use Rattle.design_base.specs.Blocks.{IsTd}
use Rattle.design_base.specs.declared.limits.TheConstants.{TD_K_MAX, TD_N_MAX}

-- one group of the master M, which has k + 1 groups of t points, truncated to u points; A, E and U have k groups
pub record CanTruncateOnce (k m t u : ℕ) (M A E U : List (List ℕ)) : Type 0 where
  pub two_groups : 2 ≤ k
  pub groups : k + 1 ≤ TD_K_MAX
  pub one_symbol : 1 ≤ m
  pub some_kept : 1 ≤ u
  pub kept : u ≤ t
  pub points : m * t + u ≤ TD_N_MAX
  pub master : IsTd M (k + 1) t
  pub small : IsTd A k m
  pub large : IsTd E k (m + 1)
  pub rest : IsTd U k u

-- two groups of the master M, which has k + 2 groups of t points, truncated to u and w points; the others have k groups
pub record CanTruncateTwice (k m t u w : ℕ) (M A E F U W : List (List ℕ)) : Type 0 where
  pub two_groups : 2 ≤ k
  pub groups : k + 2 ≤ TD_K_MAX
  pub few_groups : k ≤ m + 2
  pub one_symbol : 1 ≤ m
  pub first_some_kept : 1 ≤ u
  pub first_kept : u ≤ t
  pub second_some_kept : 1 ≤ w
  pub second_kept : w ≤ t
  pub points : m * t + u + w ≤ TD_N_MAX
  pub master : IsTd M (k + 2) t
  pub small : IsTd A k m
  pub large : IsTd E k (m + 1)
  pub larger : IsTd F k (m + 2)
  pub first_rest : IsTd U k u
  pub second_rest : IsTd W k w
