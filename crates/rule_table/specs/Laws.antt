-- What the verdicts of questions in bounds mean, and which questions always have an answer.
use Rattle.std.specs.Prelude.{ℕ, ◌-◌, ◌≡◌, ◌≢◌, ◌⊎◌, ◌↔◌, true, false, List, All, Any, None}
use Rattle.criteria.specs.Criteria.{criterion_of}
use Rattle.design_base.specs.declared.query.Query.{Query}
use Rattle.design_base.specs.declared.query.Query.TheVariants.{Bibd}
use Rattle.design_base.specs.declared.verdict.Criterion.{Criterion}
use Rattle.design_base.specs.declared.verdict.Verdict.TheVariants.{No, Unknown}
use Rattle.design_base.specs.Limits.{in_bounds}
use Rattle.design_base.specs.Meets.{Meets}
use Rattle.design_base.specs.Steps.{Step}
use Rattle.rule_table.specs.Candidates.{candidates, premises}
use Rattle.rule_table.specs.Verdicts.{is_yes, verdict}

-- no block list meets a question whose verdict is no
abbrev pub NoLaw : Type 0
NoLaw = (q : Query) (c : Criterion) → in_bounds q ≡ true → verdict q ≡ No c → (B : List (List ℕ)) → ¬ Meets q B

-- the step has a premise whose verdict is not yes
abbrev pub IsBarred : Query → Step → Type 0
IsBarred q s = Any (λ p. is_yes (verdict p) ≡ false) (premises q s)

-- nothing in the table answers the question: no criterion applies, and each candidate is barred
pub record IsOpen (q : Query) : Type 0 where
  pub no_criterion : criterion_of q ≡ None
  pub each_barred : All (IsBarred q) (candidates q)

-- a question is unknown exactly where nothing answers it
abbrev pub UnknownLaw : Type 0
UnknownLaw = (q : Query) → in_bounds q ≡ true → (verdict q ≡ Unknown) ↔ IsOpen q

-- blocks of two points, of three, of all but one or of all
abbrev pub HasSettledSize : ℕ → ℕ → Type 0
HasSettledSize v k = ((k ≡ 2) ⊎ (k ≡ 3)) ⊎ ((k ≡ v - 1) ⊎ (k ≡ v))

-- a question on block designs of such blocks is yes or no
abbrev pub SettledLaw : Type 0
SettledLaw = (v k l : ℕ) → in_bounds (Bibd v k l) ≡ true → HasSettledSize v k → verdict (Bibd v k l) ≢ Unknown
