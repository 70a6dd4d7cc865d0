-- The candidates behind a place in the table.
use Rattle.std.specs.Prelude.{ℕ, ◌+◌, List, [], ◌∷◌, ◌++◌, map, flat_map, drop, if◌then◌else◌, Option, Some, None}
use Rattle.counting.specs.Search.{upward}
use Rattle.design_base.specs.declared.query.Query.{Query}
use Rattle.design_base.specs.declared.rule.Rule.{Rule}
use Rattle.design_base.specs.Rules.{rules, number_of_rule, serves, kind_of}
use Rattle.design_base.specs.Steps.{Step, step_with}
use Rattle.rule_terms.specs.RuleTree.{RuleTree, when◌asks◌, from◌to◌take◌, choices, terms_at}
use Rattle.rule_terms.specs.Table.{terms}
use Rattle.rule_table.specs.Candidates.{four, serving}

-- the first element, where there is one
abbrev pub head : {X : Type 0} → List X → Option X
head [] = None
head (x ∷ xs) = Some x

-- the choices behind these parameters, and none or any behind them
unfoldable pub choices_after : RuleTree → List ℕ → List (List ℕ)
choices_after (when condition asks premises) xs = []
choices_after (from low to high take f) [] = []
choices_after (from low to high take f) (x ∷ xs) =
    map (λ ys. x ∷ ys) (choices_after (f x) xs) ++ flat_map (λ y. map (λ ys. y ∷ ys) (choices (f y))) (upward (x + 1) high)

-- the candidates of a rule whose parameters begin so
unfoldable pub steps_under : Query → Rule → List ℕ → List Step
steps_under q r xs = map (λ ys. step_with r (xs ++ ys)) (choices (terms_at (terms q r) xs))

-- those whose next parameter is from low to high
unfoldable pub steps_between : Query → Rule → List ℕ → ℕ → ℕ → List Step
steps_between q r xs low high = flat_map (λ x. steps_under q r (xs ++ x ∷ [])) (upward low high)

-- those that begin so and stand behind the rest
unfoldable pub steps_behind : Query → Rule → List ℕ → List ℕ → List Step
steps_behind q r xs rest = map (λ ys. step_with r (xs ++ ys)) (choices_after (terms_at (terms q r) xs) rest)

-- the candidates of a rule, which are none where it does not serve the question
unfoldable pub steps_by : Query → Rule → List Step
steps_by q r = if serves (kind_of q) r then map (step_with r) (choices (terms q r)) else []

-- the candidates of some rules
unfoldable pub steps_of : Query → List Rule → List Step
steps_of q rs = flat_map (λ r. map (step_with r) (choices (terms q r))) (serving q rs)

abbrev pub rules_after : Rule → List Rule
rules_after r = drop (number_of_rule r) rules

-- the candidates behind a candidate
unfoldable pub steps_after : Query → Step → List Step
steps_after q s = steps_behind q s.rule [] (four s) ++ steps_of q (rules_after s.rule)

-- a candidate and those behind it
abbrev pub steps_from : Query → Option Step → List Step
steps_from q None = []
steps_from q (Some s) = s ∷ steps_after q s
