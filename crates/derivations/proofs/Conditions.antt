-- What the terms of a rule say of a candidate: its condition holds, and its premises are in bounds.
use Rattle.std.proofs.Common.{◌≡◌, ℕ, Bool, true, false, List, [], ◌∷◌}
use Rattle.std.specs.List.{list_all}
use Rattle.counting.proofs.Booleans.{both}
use Rattle.design_base.specs.Limits.{in_bounds}
use Rattle.rule_terms.specs.RuleTree.{RuleTree, when◌asks◌, from◌to◌take◌, allows, premises_at}

-- the condition at these parameters
abbrev pub condition_at : RuleTree → List ℕ → Bool
condition_at (when condition asks premises) xs = condition
condition_at (from low to high take f) [] = false
condition_at (from low to high take f) (x ∷ xs) = condition_at (f x) xs

pub record IsAllowed (t : RuleTree) (xs : List ℕ) : Type 0 where
  pub condition : condition_at t xs ≡ true
  pub bounded : list_all in_bounds (premises_at t xs) ≡ true

pub allowed_at : (t : RuleTree) (xs : List ℕ) → allows t xs ≡ true → IsAllowed t xs
unfolding allows premises_at
allowed_at (when condition asks premises) xs e = let parts = both condition (list_all in_bounds premises) e in record { condition = parts.0; bounded = parts.1 }
allowed_at (from low to high take f) [] e = cc
allowed_at (from low to high take f) (x ∷ xs) e = let rest = allowed_at (f x) xs (both _ (allows (f x) xs) e).1 in record { condition = rest.condition; bounded = rest.bounded }
