-- What a verdict means: of a no that there is no such design, of an unknown that nothing answers the question.
use Rattle.std.proofs.Common.{◌≡◌, zero, suc, Bool, true, false, List, [], ◌∷◌, arith, refl, ap, sym, subst, ◌∙◌}
use Rattle.std.specs.Prelude.{Option, Some, None, IsSome, Any}
use Rattle.std.specs.List.{AllByRecursion}
use Rattle.std.proofs.lemmas.List.Elements.{All-from_recursion, recursion_from_All}
use Rattle.counting.specs.Search.{first_in, each_passes}
use Rattle.design_base.specs.declared.query.Query.{Query}
use Rattle.design_base.specs.declared.verdict.Criterion.{Criterion}
use Rattle.design_base.specs.declared.verdict.Verdict.{Verdict}
use Rattle.design_base.specs.declared.verdict.Verdict.TheVariants.{No, Unknown}
use Rattle.design_base.specs.Limits.{in_bounds}
use Rattle.design_base.specs.Steps.{Step}
use Rattle.criteria.specs.Criteria.{criterion_of}
use Rattle.criteria.proofs.Laws.{criterion_law}
use Rattle.rule_table.specs.Candidates.{candidates, premises}
use Rattle.rule_table.specs.Laws.{IsBarred, IsOpen, NoLaw, UnknownLaw}
use Rattle.rule_table.specs.Verdicts.{judged, verdict, first_step, is_yes, yes_or_unknown}
use Rattle.rule_table.proofs.Each.{each-weaker}
use Rattle.rule_table.proofs.Unfolds.{verdict_unfolds}

-- the verdict by the criterion

abbrev pub judged_by : Query → Option Criterion → Verdict
judged_by q (Some c) = No c
judged_by q None = yes_or_unknown (first_step verdict q)

pub verdict_by : (q : Query) → in_bounds q ≡ true → verdict q ≡ judged_by q (criterion_of q)
unfolding judged
verdict_by q bounds = verdict_unfolds q bounds ∙ by (criterion_of q)
  where
    by : (o : Option Criterion) → ◌≡◌ {A = Verdict} (elim o [ Some c ↦ No c | None ↦ yes_or_unknown (first_step verdict q) ]) (judged_by q o)
    by (Some c) = refl
    by None = refl

-- the criterion of a no is the first that applies
pub criterion_of_no : (q : Query) (c : Criterion) (told : Verdict) → in_bounds q ≡ true → told ≡ verdict q → told ≡ No c → criterion_of q ≡ Some c
criterion_of_no q c told bounds is refused = by (criterion_of q) (sym (verdict_by q bounds) ∙ sym is ∙ refused)
  where
    of_step : (o : Option Step) → yes_or_unknown o ≡ No c → ⊥
    of_step (Some s) e = cc
    of_step None e = cc

    by : (o : Option Criterion) → judged_by q o ≡ No c → o ≡ Some c
    by (Some r) e = let same : r ≡ c = cc in ap Some same
    by None e = absurd (of_step (first_step verdict q) e)

pub none_meets : NoLaw
none_meets q c bounds refused B = criterion_law q bounds (subst (λ (o : Option Criterion). IsSome o) (sym (criterion_of_no q c (verdict q) bounds refl refused)) refl) B

module _ {X : Type 0} (test : X → Bool) where
  -- none is found exactly where each fails
  none_passes : (xs : List X) → first_in test xs ≡ None → AllByRecursion (λ x. test x ≡ false) xs
  unfolding first_in
  none_passes [] e = tt
  none_passes (x ∷ xs) e = by (test x) refl (none_passes xs) e
    where
      by : (b : Bool) → test x ≡ b → (first_in test xs ≡ None → AllByRecursion (λ x. test x ≡ false) xs)
          → ◌≡◌ {A = Option X} (elim b [ true ↦ Some x | false ↦ first_in test xs ]) None → (test x ≡ false) × AllByRecursion (λ x. test x ≡ false) xs
      by true is rest e = cc
      by false is rest e = (is, rest e)

  none_found : (xs : List X) → AllByRecursion (λ x. test x ≡ false) xs → first_in test xs ≡ None
  unfolding first_in
  none_found [] fails = refl
  none_found (x ∷ xs) fails = by (test x) fails.0 (none_found xs fails.1)
    where
      by : (b : Bool) → b ≡ false → first_in test xs ≡ None → ◌≡◌ {A = Option X} (elim b [ true ↦ Some x | false ↦ first_in test xs ]) None
      by true is rest = cc
      by false is rest = rest

  -- not all pass exactly where one fails
  one_fails : (xs : List X) → each_passes test xs ≡ false → Any (λ x. test x ≡ false) xs
  unfolding each_passes
  one_fails [] e = cc
  one_fails (x ∷ xs) e = by (test x) refl (one_fails xs) e
    where
      by : (b : Bool) → test x ≡ b → (each_passes test xs ≡ false → Any (λ x. test x ≡ false) xs)
          → ◌≡◌ {A = Bool} (elim b [ true ↦ each_passes test xs | false ↦ false ]) false → Any (λ x. test x ≡ false) (x ∷ xs)
      by true is rest e = let later = rest e in (suc later.0, later.1, omega (arith, later.2), later.3, later.4)
      by false is rest e = (0, x, omega arith, refl, is)

  not_all_pass : (xs : List X) → Any (λ x. test x ≡ false) xs → each_passes test xs ≡ false
  unfolding each_passes
  not_all_pass [] (k, y, within, at, fails) = absurd (omega (arith, within))
  not_all_pass (x ∷ xs) (zero, y, within, at, fails) = by (test x) (ap test at ∙ fails)
    where
      by : (b : Bool) → b ≡ false → ◌≡◌ {A = Bool} (elim b [ true ↦ each_passes test xs | false ↦ false ]) false
      by true is = cc
      by false is = refl
  not_all_pass (x ∷ xs) (suc k, y, within, at, fails) = by (test x) (not_all_pass xs (k, y, omega (arith, within), at, fails))
    where
      by : (b : Bool) → each_passes test xs ≡ false → ◌≡◌ {A = Bool} (elim b [ true ↦ each_passes test xs | false ↦ false ]) false
      by true rest = rest
      by false rest = refl

-- whether all premises of the step are yes
abbrev is_proved : Query → Step → Bool
is_proved q s = each_passes (λ p. is_yes (verdict p)) (premises q s)

-- no candidate is proved exactly where each is barred

all_barred : (q : Query) → first_step verdict q ≡ None → AllByRecursion (IsBarred q) (candidates q)
all_barred q none =
    each-weaker (λ s. is_proved q s ≡ false) (IsBarred q) (candidates q) (λ s unproved. one_fails (λ p. is_yes (verdict p)) (premises q s) unproved)
    (none_passes (is_proved q) (candidates q) none)

none_proved : (q : Query) → AllByRecursion (IsBarred q) (candidates q) → first_step verdict q ≡ None
none_proved q barred =
    none_found (is_proved q) (candidates q)
    (each-weaker (IsBarred q) (λ s. is_proved q s ≡ false) (candidates q) (λ s bar. not_all_pass (λ p. is_yes (verdict p)) (premises q s) bar) barred)

pub unknown_is_open : UnknownLaw
unknown_is_open q bounds = (
  λ unknown. to (criterion_of q) refl (sym (verdict_by q bounds) ∙ unknown),
  λ is. verdict_by q bounds ∙ ap (judged_by q) is.no_criterion ∙ ap yes_or_unknown (none_proved q (recursion_from_All (IsBarred q) (candidates q) is.each_barred)),
)
  where
    no_step : (o : Option Step) → yes_or_unknown o ≡ Unknown → o ≡ None
    no_step (Some s) e = cc
    no_step None e = refl

    to : (o : Option Criterion) → criterion_of q ≡ o → judged_by q o ≡ Unknown → IsOpen q
    to (Some c) is e = cc
    to None is e = record {
      no_criterion = is;
      each_barred = All-from_recursion (IsBarred q) (candidates q) (all_barred q (no_step (first_step verdict q) e));
    }
