-- What the terms say behind a prefix of the parameters.
use Rattle.std.specs.Prelude.{ℕ, ◌≡◌, ◌<◌, ◌≤◌, true, false, List, length}
use Rattle.design_base.specs.declared.limits.TheConstants.{PARAMETER_MAX, PREMISES_MAX}
use Rattle.design_base.specs.declared.rule.Rule.{Rule}
use Rattle.design_base.specs.Rules.{title}
use Rattle.rule_terms.specs.declared.branch.Branch.{Branch}
use Rattle.rule_terms.specs.declared.branch.Branch.TheVariants.{Parameter, Premises, Nothing}
use Rattle.rule_terms.specs.RuleTree.{RuleTree, when◌asks◌, from◌to◌take◌}

-- it is what the terms say first
abbrev pub IsBranch : RuleTree → Branch → Type 0
IsBranch (when condition asks premises) (Parameter low high) = ⊥
IsBranch (when condition asks premises) (Premises list) = (condition ≡ true) × (list.items ≡ premises)
IsBranch (when condition asks premises) Nothing = condition ≡ false
IsBranch (from low to high take f) (Parameter least most) = (least ≡ low) × (most ≡ high)
IsBranch (from low to high take f) (Premises list) = ⊥
IsBranch (from low to high take f) Nothing = ⊥

-- a parameter is one that the rule has and stays within the limit; premises are few
abbrev pub IsFitting : Rule → List ℕ → Branch → Type 0
IsFitting r xs (Parameter low high) = (length xs < (title r).parameters) × (high ≤ PARAMETER_MAX)
IsFitting r xs (Premises list) = length list.items ≤ PREMISES_MAX
IsFitting r xs Nothing = Unit {0}

-- there are few premises, and no parameter
abbrev pub IsFew : Branch → Type 0
IsFew (Parameter low high) = ⊥
IsFew (Premises list) = length list.items ≤ PREMISES_MAX
IsFew Nothing = Unit {0}

-- this is the range of a parameter
abbrev pub Takes : ℕ → ℕ → Branch → Type 0
Takes low high (Parameter least most) = (least ≡ low) × (most ≡ high)
Takes low high (Premises list) = ⊥
Takes low high Nothing = ⊥
