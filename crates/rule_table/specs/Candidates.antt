-- The candidates of a question, and their premises.
use Rattle.std.specs.Prelude.{ℕ, Bool, true, false, ◌≡◌, ◌≤◌, ◌&&◌, List, [], ◌∷◌, length, map, flat_map, filter, Option, Some, None}
use Rattle.smallvec.specs.SmallVec.{SmallVec}
use Rattle.design_base.specs.declared.limits.TheConstants.{PREMISES_MAX}
use Rattle.design_base.specs.declared.query.Query.{Query}
use Rattle.design_base.specs.declared.rule.Rule.{Rule}
use Rattle.design_base.specs.Rules.{rules, serves, kind_of}
use Rattle.design_base.specs.Steps.{Step, step_with}
use Rattle.rule_terms.specs.RuleTree.{RuleTree, choices, allows, premises_at}
use Rattle.rule_terms.specs.Table.{terms}

-- the parameters of the step, those past the rule's own too
abbrev pub four : Step → List ℕ
four s = s.a ∷ s.b ∷ s.c ∷ s.d ∷ []

-- the rules among some that serve questions of this kind
abbrev pub serving : Query → List Rule → List Rule
serving q rs = filter (serves (kind_of q)) rs

-- the steps that the table allows, by the number of the rule and then by the parameters
unfoldable pub candidates : Query → List Step
candidates q = flat_map (λ r. map (step_with r) (choices (terms q r))) (serving q rules)

-- the step is one of them
unfoldable pub is_candidate : Query → Step → Bool
is_candidate q s = serves (kind_of q) s.rule && allows (terms q s.rule) (four s)

-- the questions on which the step rests, in order
unfoldable pub premises : Query → Step → List Query
premises q s = premises_at (terms q s.rule) (four s)

-- what is found at some parameters: their premises, which are few, where the terms allow them
abbrev pub FindsPremises : RuleTree → List ℕ → Option (SmallVec Query) → Type 0
FindsPremises t xs None = allows t xs ≡ false
FindsPremises t xs (Some list) = (allows t xs ≡ true) × (list.items ≡ premises_at t xs) × (length list.items ≤ PREMISES_MAX)
