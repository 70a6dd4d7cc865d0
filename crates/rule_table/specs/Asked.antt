-- The questions that a verdict asks for.
use Rattle.std.specs.Prelude.{true, false, List, [], ◌∷◌, Some, None}
use Rattle.design_base.specs.declared.query.Query.{Query}
use Rattle.design_base.specs.Steps.{Step}
use Rattle.criteria.specs.Criteria.{criterion_of}
use Rattle.rule_table.specs.Candidates.{candidates, premises}
use Rattle.rule_table.specs.Verdicts.{verdict, is_yes}

-- premises in order up to the first that is not Yes, and what is asked next where there is such a one
unfoldable pub asked_through : List Query → (Unit {0} → List Query) → List Query
asked_through [] next = []
asked_through (p ∷ ps) next = p ∷ (elim (is_yes (verdict p)) [ true ↦ asked_through ps next | false ↦ next tt ])

-- the premises of the candidates in order, up to the first candidate all of whose premises are Yes
unfoldable pub asked_by : Query → List Step → List Query
asked_by q [] = []
asked_by q (s ∷ ss) = asked_through (premises q s) (λ _. asked_by q ss)

-- the questions that the verdict of q itself asks for, in order
unfoldable pub asked : Query → List Query
asked q = elim (criterion_of q) [ Some c ↦ [] | None ↦ asked_by q (candidates q) ]
