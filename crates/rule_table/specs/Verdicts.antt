-- The verdict of a question.
use Rattle.std.specs.Prelude.{ℕ, ◌+◌, Bool, true, false, Option, Some, None}
use Rattle.std.proofs.Common.{zero, suc}
use Rattle.counting.specs.Search.{first_in, each_passes}
use Rattle.design_base.specs.declared.query.Query.{Query}
use Rattle.design_base.specs.declared.verdict.Verdict.{Verdict}
use Rattle.design_base.specs.declared.verdict.Verdict.TheVariants.{Yes, No, Unknown}
use Rattle.design_base.specs.Steps.{Step}
use Rattle.criteria.specs.Criteria.{criterion_of}
use Rattle.rule_table.specs.Candidates.{candidates, premises}
use Rattle.rule_terms.specs.Rank.{rank}

abbrev pub is_yes : Verdict → Bool
is_yes (Yes s) = true
is_yes (No c) = false
is_yes Unknown = false

abbrev pub yes_or_unknown : Option Step → Verdict
yes_or_unknown (Some s) = Yes s
yes_or_unknown None = Unknown

-- the first candidate all of whose premises have a Yes verdict, where f gives the verdicts
abbrev pub first_step : (Query → Verdict) → Query → Option Step
first_step f q = first_in (λ s. each_passes (λ p. is_yes (f p)) (premises q s)) (candidates q)

-- No with its criterion; else Yes with that candidate; else Unknown
unfoldable pub judged : (Query → Verdict) → Query → Verdict
judged f q = elim (criterion_of q) [ Some c ↦ No c | None ↦ yes_or_unknown (first_step f q) ]

-- the verdict of a question whose rank is below n
unfoldable pub verdict_below : ℕ → Query → Verdict
verdict_below zero q = Unknown
verdict_below (suc n) q = judged (verdict_below n) q

-- The verdict, which is `judged verdict`: the premises have smaller ranks.
unfoldable pub verdict : Query → Verdict
verdict q = verdict_below (rank q + 1) q
