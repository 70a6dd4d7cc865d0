-- The terms of a rule at a question: its parameters, its condition and its premises.
use Rattle.std.specs.Prelude.{ℕ, Bool, false, ◌&&◌, List, [], ◌∷◌, map, flat_map, if◌then◌else◌}
use Rattle.std.specs.List.{list_all}
use Rattle.counting.specs.Search.{upward}
use Rattle.design_base.specs.declared.query.Query.{Query}
use Rattle.design_base.specs.Limits.{in_bounds, within}

infix 4 when◌asks◌ from◌to◌take◌ only◌take◌
-- `from 2 to n take (λ a. when a * a == n asks premises)`: a parameter from 2 to n, and with it the condition and the premises
pub data RuleTree : Type 0 where
  when◌asks◌ : Bool → List Query → RuleTree
  from◌to◌take◌ : ℕ → ℕ → (ℕ → RuleTree) → RuleTree

-- a parameter that is given by the others
abbrev pub only◌take◌ : ℕ → (ℕ → RuleTree) → RuleTree
only◌take◌ x f = from x to x take f

-- no parameters are allowed
abbrev pub never : RuleTree
never = when false asks []

-- the parameters for which the condition holds and the premises are in bounds, in ascending order
unfoldable pub choices : RuleTree → List (List ℕ)
choices (when condition asks premises) = if condition && list_all in_bounds premises then [] ∷ [] else []
choices (from low to high take f) = flat_map (λ x. map (λ xs. x ∷ xs) (choices (f x))) (upward low high)

-- these parameters, and none or any behind them, are among those
unfoldable pub allows : RuleTree → List ℕ → Bool
allows (when condition asks premises) xs = condition && list_all in_bounds premises
allows (from low to high take f) [] = false
allows (from low to high take f) (x ∷ xs) = within low high x && allows (f x) xs

-- the premises at these parameters
unfoldable pub premises_at : RuleTree → List ℕ → List Query
premises_at (when condition asks premises) xs = premises
premises_at (from low to high take f) [] = []
premises_at (from low to high take f) (x ∷ xs) = premises_at (f x) xs

-- the terms behind some parameters; surplus ones are not looked at
abbrev pub terms_at : RuleTree → List ℕ → RuleTree
terms_at (when condition asks premises) xs = when condition asks premises
terms_at (from low to high take f) [] = from low to high take f
terms_at (from low to high take f) (x ∷ xs) = terms_at (f x) xs
