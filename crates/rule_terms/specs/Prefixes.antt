-- The parameters of a prefix, as a list.
use Rattle.std.specs.Prelude.{ℕ, ◌≤◌, List, [], ◌∷◌}
use Rattle.design_base.specs.declared.limits.TheConstants.{PARAMETER_MAX}
use Rattle.rule_terms.specs.declared.prefix.Prefix.{Prefix}
use Rattle.rule_terms.specs.declared.prefix.Prefix.TheVariants.{Zero, One, Two, Three, Four}

abbrev pub listed : Prefix → List ℕ
listed Zero = []
listed (One a) = a ∷ []
listed (Two a b) = a ∷ b ∷ []
listed (Three a b c) = a ∷ b ∷ c ∷ []
listed (Four a b c d) = a ∷ b ∷ c ∷ d ∷ []

-- each is within the limit
abbrev pub IsSmall : Prefix → Type 0
IsSmall Zero = Unit {0}
IsSmall (One a) = a ≤ PARAMETER_MAX
IsSmall (Two a b) = (a ≤ PARAMETER_MAX) × (b ≤ PARAMETER_MAX)
IsSmall (Three a b c) = (a ≤ PARAMETER_MAX) × (b ≤ PARAMETER_MAX) × (c ≤ PARAMETER_MAX)
IsSmall (Four a b c d) = (a ≤ PARAMETER_MAX) × (b ≤ PARAMETER_MAX) × (c ≤ PARAMETER_MAX) × (d ≤ PARAMETER_MAX)
