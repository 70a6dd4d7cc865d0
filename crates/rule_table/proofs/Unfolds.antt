-- The verdict is judged by the verdicts of the premises.
use Rattle.std.proofs.Common.{◌≡◌, ℕ, zero, suc, ◌+◌, ◌<◌, true, arith, refl, ap, add-one}
use Rattle.std.specs.Prelude.{Option, Some, None}
use Rattle.std.specs.List.{AllByRecursion}
use Rattle.counting.specs.Search.{each_passes}
use Rattle.design_base.specs.declared.query.Query.{Query}
use Rattle.design_base.specs.declared.verdict.Verdict.{Verdict}
use Rattle.design_base.specs.declared.verdict.Verdict.TheVariants.{No}
use Rattle.design_base.specs.declared.verdict.Criterion.{Criterion}
use Rattle.design_base.specs.Limits.{in_bounds}
use Rattle.design_base.specs.Steps.{Step}
use Rattle.criteria.specs.Criteria.{criterion_of}
use Rattle.rule_table.specs.Candidates.{candidates, premises}
use Rattle.rule_terms.specs.Rank.{rank}
use Rattle.rule_table.specs.Verdicts.{judged, verdict, verdict_below, first_step, is_yes, yes_or_unknown}
use Rattle.rule_table.proofs.Each.{each-weaker, first_in-same, each_passes-same}
use Rattle.rule_table.proofs.Passing.{IsBelow, candidates_fall}

-- a verdict is judged alike by answers that are alike at the questions of smaller rank
judged-same : (f g : Query → Verdict) (q : Query) → in_bounds q ≡ true → ((p : Query) → IsBelow (rank q) p → f p ≡ g p) → judged f q ≡ judged g q
unfolding judged
judged-same f g q b h = step_same (criterion_of q)
  where
    premises_same : (s : Step) → AllByRecursion (IsBelow (rank q)) (premises q s) → each_passes (λ p. is_yes (f p)) (premises q s) ≡ each_passes (λ p. is_yes (g p)) (premises q s)
    premises_same s a =
        each_passes-same (λ p. is_yes (f p)) (λ p. is_yes (g p)) (premises q s)
        (each-weaker (IsBelow (rank q)) (λ p. is_yes (f p) ≡ is_yes (g p)) (premises q s) (λ p d. ap is_yes (h p d)) a)

    steps_same : first_step f q ≡ first_step g q
    steps_same =
        first_in-same (λ s. each_passes (λ p. is_yes (f p)) (premises q s)) (λ s. each_passes (λ p. is_yes (g p)) (premises q s)) (candidates q)
        (each-weaker (λ s. AllByRecursion (IsBelow (rank q)) (premises q s))
        (λ s. each_passes (λ p. is_yes (f p)) (premises q s) ≡ each_passes (λ p. is_yes (g p)) (premises q s))
        (candidates q) premises_same (candidates_fall q b))

    step_same : (c : Option Criterion)
        → ◌≡◌ {A = Verdict} (elim c [ Some c ↦ No c | None ↦ yes_or_unknown (first_step f q) ]) (elim c [ Some c ↦ No c | None ↦ yes_or_unknown (first_step g q) ])
    step_same (Some c) = refl
    step_same None = ap yes_or_unknown steps_same

-- any two limits above the rank give the same
below-same : (n m : ℕ) (q : Query) → in_bounds q ≡ true → rank q < n → rank q < m → verdict_below n q ≡ verdict_below m q
unfolding verdict_below
below-same zero m q b h k = absurd (omega arith)
below-same (suc n) zero q b h k = absurd (omega arith)
below-same (suc n) (suc m) q b h k =
    judged-same (verdict_below n) (verdict_below m) q b (λ p d. below-same n m p d.0 (omega (arith, d.1)) (omega (arith, d.1)))

-- The verdict is No with its criterion; else Yes with the first candidate all of whose premises have a Yes verdict; else Unknown.
pub verdict_unfolds : (q : Query) → in_bounds q ≡ true → verdict q ≡ judged verdict q
unfolding verdict verdict_below
verdict_unfolds q b =
    rw add-one (judged-same (verdict_below (rank q)) verdict q b (λ p d. below-same (rank q) (rank p + 1) p d.0 d.1 (omega arith)))
