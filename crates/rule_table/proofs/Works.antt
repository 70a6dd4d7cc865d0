-- The work of a question is one evaluation and the work of what it asks for.
use Rattle.std.proofs.Common.{◌≡◌, ℕ, zero, suc, ◌+◌, ◌<◌, Bool, true, false, List, [], ◌∷◌, ◌++◌, arith, ap, sym, ◌∙◌, add-one}
use Rattle.std.specs.Prelude.{Option, Some, None, sum_by}
use Rattle.std.specs.List.{AllByRecursion}
use Rattle.std.proofs.lemmas.List.Sums.{sum_by-append}
use Rattle.counting.proofs.Lists.{sum_by-same, sum_by-single}
use Rattle.design_base.specs.declared.query.Query.{Query}
use Rattle.design_base.specs.declared.verdict.Criterion.{Criterion}
use Rattle.design_base.specs.Limits.{in_bounds}
use Rattle.design_base.specs.Steps.{Step}
use Rattle.criteria.specs.Criteria.{criterion_of}
use Rattle.rule_table.specs.Asked.{asked, asked_by, asked_through}
use Rattle.rule_table.specs.Candidates.{candidates, premises}
use Rattle.rule_terms.specs.Rank.{rank}
use Rattle.rule_table.specs.Verdicts.{verdict, is_yes}
use Rattle.rule_table.specs.Work.{work, work_below}
use Rattle.rule_table.proofs.Each.{each-weaker}
use Rattle.rule_table.proofs.Passing.{IsBelow, candidates_fall}

module _ (P : Query → Type 0) where
  through_each : (ps : List Query) (next : Unit {0} → List Query) → AllByRecursion P ps → AllByRecursion P (next tt) → AllByRecursion P (asked_through ps next)
  unfolding asked_through
  through_each [] next a b = tt
  through_each (p ∷ ps) next a b = (a.0, by (is_yes (verdict p)) (through_each ps next a.1 b))
    where
      by : (yes : Bool) → AllByRecursion P (asked_through ps next) → AllByRecursion P (elim yes [ true ↦ asked_through ps next | false ↦ next tt ])
      by true c = c
      by false c = b

  by_each : (q : Query) (ss : List Step) → AllByRecursion (λ s. AllByRecursion P (premises q s)) ss → AllByRecursion P (asked_by q ss)
  unfolding asked_by
  by_each q [] a = tt
  by_each q (s ∷ ss) a = through_each (premises q s) (λ _. asked_by q ss) a.0 (by_each q ss a.1)

-- what is asked for is in bounds and of smaller rank
pub asked_fall : (q : Query) → in_bounds q ≡ true → AllByRecursion (IsBelow (rank q)) (asked q)
unfolding asked
asked_fall q b = by (criterion_of q)
  where
    by : (c : Option Criterion) → AllByRecursion (IsBelow (rank q)) (elim c [ Some c ↦ [] | None ↦ asked_by q (candidates q) ])
    by (Some c) = tt
    by None = by_each (IsBelow (rank q)) q (candidates q) (candidates_fall q b)

work-same : (n m : ℕ) (q : Query) → in_bounds q ≡ true → rank q < n → rank q < m → work_below n q ≡ work_below m q
unfolding work_below
work-same zero m q b h k = absurd (omega arith)
work-same (suc n) zero q b h k = absurd (omega arith)
work-same (suc n) (suc m) q b h k =
    ap (λ (w : ℕ). 1 + w) (sum_by-same (work_below n) (work_below m) (asked q)
    (each-weaker (IsBelow (rank q)) (λ p. work_below n p ≡ work_below m p) (asked q)
    (λ p d. work-same n m p d.0 (omega (arith, d.1)) (omega (arith, d.1))) (asked_fall q b)))

pub work_unfolds : (q : Query) → in_bounds q ≡ true → work q ≡ 1 + sum_by work (asked q)
unfolding work work_below
work_unfolds q b =
    rw add-one (ap (λ (w : ℕ). 1 + w) (sum_by-same (work_below (rank q)) work (asked q)
    (each-weaker (IsBelow (rank q)) (λ p. work_below (rank q) p ≡ work p) (asked q)
    (λ p d. work-same (rank q) (rank p + 1) p d.0 d.1 (omega arith)) (asked_fall q b))))

-- one answer more
pub work_more : (ps qs : List Query) (p : Query) → qs ≡ ps ++ p ∷ [] → sum_by work qs ≡ sum_by work ps + work p
work_more ps qs p e = ap (sum_by work) e ∙ sum_by-append work ps (p ∷ []) ∙ ap (λ (w : ℕ). sum_by work ps + w) (sum_by-single work p)

-- the steps of a whole evaluation
pub work_done : (q : Query) (ps : List Query) → in_bounds q ≡ true → ps ≡ asked q → 1 + sum_by work ps ≡ work q
work_done q ps b e = ap (λ (ps : List Query). 1 + sum_by work ps) e ∙ sym (work_unfolds q b)
