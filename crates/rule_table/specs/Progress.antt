-- What a clause sees of an evaluation.
use Rattle.std.specs.Prelude.{ℕ, ◌≡◌, ◌-◌, ◌<◌, ⊤, Bool, true, false, List, [], ◌∷◌, ◌++◌, length, take, drop, Option, Some, None}
use Rattle.std.specs.List.{AllByRecursion}
use Rattle.counting.specs.Search.{first_in, each_passes}
use Rattle.design_base.specs.declared.query.Query.{Query}
use Rattle.design_base.specs.declared.verdict.Verdict.{Verdict}
use Rattle.design_base.specs.declared.verdict.Criterion.{Criterion}
use Rattle.design_base.specs.Limits.{in_bounds}
use Rattle.design_base.specs.Steps.{Step}
use Rattle.criteria.specs.Criteria.{criterion_of}
use Rattle.rule_table.specs.declared.turn.Turn.{Turn}
use Rattle.rule_table.specs.declared.turn.Turn.TheVariants.{Ask, Done}
use Rattle.rule_table.specs.Candidates.{premises, is_candidate}
use Rattle.rule_terms.specs.Rank.{rank}
use Rattle.rule_table.specs.Verdicts.{verdict, is_yes, first_step}
use Rattle.rule_table.specs.Asked.{asked, asked_by, asked_through}
use Rattle.rule_table.specs.Walks.{steps_after, steps_from}

-- its question, the premises that were answered, and how many answers it can still take
pub record Progress : Type 0 where
  pub question : Query
  pub answered : List Query
  pub left : ℕ

-- p is the premise that the question asks for next
abbrev pub AsksNext : Progress → Query → Type 0
AsksNext e p = (rest : List Query) × (asked e.question ≡ e.answered ++ p ∷ rest)

-- the verdict is that of the next premise
abbrev pub TellsNext : Progress → Verdict → Type 0
TellsNext e v = (p : Query) × AsksNext e p × (v ≡ verdict p)

-- the evaluation after the answer to p
abbrev pub answered_next : Progress → Query → Progress
answered_next e p = record { question = e.question; answered = e.answered ++ p ∷ []; left = e.left - 1 }

-- where a premise is asked for, and where the verdict is given
abbrev pub IfAsk : Turn → (Query → Type 0) → Type 0
IfAsk (Ask p) P = P p
IfAsk (Done v) P = ⊤

abbrev pub IfDone : Turn → (Verdict → Type 0) → Type 0
IfDone (Ask p) P = ⊤
IfDone (Done v) P = P v

-- what is left to ask from premise i of the next candidate on
unfoldable pub asked_from : Query → Option Step → ℕ → List Query
asked_from q None i = []
asked_from q (Some s) i = asked_through (drop i (premises q s)) (λ _. asked_by q (steps_after q s))

-- what is left to ask, which is nothing where a criterion applies
unfoldable pub asked_still : Query → Option Criterion → Option Step → ℕ → List Query
asked_still q (Some c) next i = []
asked_still q None next i = asked_from q next i

-- all of the questions have a Yes verdict
abbrev pub are_yes : List Query → Bool
are_yes ps = each_passes (λ p. is_yes (verdict p)) ps

-- the first of some steps all of whose premises have a Yes verdict
abbrev pub first_proved : Query → List Step → Option Step
first_proved q ss = first_in (λ s. are_yes (premises q s)) ss

-- the step that the verdict names, where premise i of the next candidate is reached
unfoldable pub found_from : Query → Option Step → ℕ → Option Step
found_from q None i = None
found_from q (Some s) i = elim (are_yes (drop i (premises q s))) [ true ↦ Some s | false ↦ first_proved q (steps_after q s) ]

-- what is seen of an evaluation of q that has come to this place
unfoldable pub progress : Query → Option Criterion → Option Step → ℕ → Progress
progress q c next i = record {
  question = q;
  answered = take (length (asked q) - length (asked_still q c next i)) (asked q);
  left = length (asked_still q c next i);
}

-- a candidate, with premises in bounds and of smaller rank
abbrev pub IsSound : Query → Step → Type 0
IsSound q s = (is_candidate q s ≡ true) × AllByRecursion (λ p. (in_bounds p ≡ true) × (rank p < rank q)) (premises q s)

-- the evaluation of q comes to this place
pub record IsPlace (q : Query) (c : Option Criterion) (next : Option Step) (i : ℕ) : Type 0 where
  pub bounds : in_bounds q ≡ true
  pub reason : c ≡ criterion_of q
  pub asked_before : (front : List Query) × (asked q ≡ front ++ asked_still q c next i)
  pub found : c ≡ None → first_step verdict q ≡ found_from q next i
  pub sound : AllByRecursion (IsSound q) (steps_from q next)
