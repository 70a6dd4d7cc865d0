-- What is known of the step of a Yes verdict.
use Rattle.std.proofs.Common.{◌≡◌, ℕ, ◌<◌, Bool, true, false, List, [], ◌∷◌, refl, sym, subst, ◌∙◌}
use Rattle.std.specs.Prelude.{Option, Some, None}
use Rattle.std.specs.List.{AllByRecursion}
use Rattle.counting.specs.Search.{first_in, each_passes}
use Rattle.design_base.specs.declared.query.Query.{Query}
use Rattle.design_base.specs.declared.verdict.Verdict.{Verdict}
use Rattle.design_base.specs.declared.verdict.Verdict.TheVariants.{Yes, No}
use Rattle.design_base.specs.declared.verdict.Criterion.{Criterion}
use Rattle.design_base.specs.Limits.{in_bounds}
use Rattle.design_base.specs.Steps.{Step}
use Rattle.criteria.specs.Criteria.{criterion_of}
use Rattle.rule_table.specs.Candidates.{candidates, premises, is_candidate}
use Rattle.rule_terms.specs.Rank.{rank}
use Rattle.rule_table.specs.Verdicts.{judged, verdict, first_step, is_yes, yes_or_unknown}
use Rattle.rule_table.proofs.Passing.{IsBelow, candidates_are, candidates_fall}
use Rattle.rule_table.proofs.Each.{each-both, each-weaker}
use Rattle.rule_table.proofs.Unfolds.{verdict_unfolds}

module _ {X : Type 0} where
  -- what is known of each element is known of the first that passes; and it passes
  pub first_in-is : (P : X → Type 0) (test : X → Bool) (xs : List X) → AllByRecursion P xs → (y : X) → first_in test xs ≡ Some y → P y × (test y ≡ true)
  unfolding first_in
  first_in-is P test [] a y e = cc
  first_in-is P test (x ∷ xs) a y e = split (test x) refl (first_in-is P test xs a.1 y) e
    where
      split : (b : Bool) → b ≡ test x → (first_in test xs ≡ Some y → P y × (test y ≡ true))
          → ◌≡◌ {A = Option X} (elim b [ true ↦ Some x | false ↦ first_in test xs ]) (Some y) → P y × (test y ≡ true)
      split true t r e = let f : x ≡ y = cc in (subst P f a.0, subst (λ z. test z ≡ true) f (sym t))
      split false t r e = r e

  pub each-passes : (test : X → Bool) (xs : List X) → each_passes test xs ≡ true → AllByRecursion (λ x. test x ≡ true) xs
  unfolding each_passes
  each-passes test [] e = tt
  each-passes test (x ∷ xs) e = split (test x) refl (each-passes test xs) e
    where
      split : (b : Bool) → b ≡ test x → (each_passes test xs ≡ true → AllByRecursion (λ x. test x ≡ true) xs)
          → ◌≡◌ {A = Bool} (elim b [ true ↦ each_passes test xs | false ↦ false ]) true → (test x ≡ true) × AllByRecursion (λ x. test x ≡ true) xs
      split true t r e = (sym t, r e)
      split false t r e = cc

-- in bounds, of a rank below r, and with a Yes verdict
abbrev pub IsProved : ℕ → Query → Type 0
IsProved r p = (in_bounds p ≡ true) × (rank p < r) × (is_yes (verdict p) ≡ true)

-- the step of a Yes verdict is a candidate whose premises have Yes verdicts and smaller ranks
pub record IsChosen (q : Query) (s : Step) : Type 0 where
  pub candidate : is_candidate q s ≡ true
  pub proved : AllByRecursion (IsProved (rank q)) (premises q s)

pub chosen_of : (q : Query) (s : Step) → in_bounds q ≡ true → verdict q ≡ Yes s → IsChosen q s
unfolding judged
chosen_of q s b e = by_criterion (criterion_of q) (sym (verdict_unfolds q b) ∙ e)
  where
    chosen : first_step verdict q ≡ Some s → IsChosen q s
    chosen e =
        let f = first_in-is (λ s. (is_candidate q s ≡ true) × AllByRecursion (IsBelow (rank q)) (premises q s)) (λ s. each_passes (λ p. is_yes (verdict p)) (premises q s)) (candidates q)
        (each-both (λ s. is_candidate q s ≡ true) (λ s. AllByRecursion (IsBelow (rank q)) (premises q s)) (candidates q) (candidates_are q b) (candidates_fall q b)) s e in
        record {
          candidate = f.0.0;
          proved = each-weaker (λ p. IsBelow (rank q) p × (is_yes (verdict p) ≡ true)) (IsProved (rank q)) (premises q s) (λ p t. (t.0.0, t.0.1, t.1))
              (each-both (IsBelow (rank q)) (λ p. is_yes (verdict p) ≡ true) (premises q s) f.0.1 (each-passes (λ p. is_yes (verdict p)) (premises q s) f.1));
        }

    by_step : (o : Option Step) → (o ≡ Some s → IsChosen q s) → yes_or_unknown o ≡ Yes s → IsChosen q s
    by_step (Some t) r e = r cc
    by_step None r e = cc

    by_criterion : (c : Option Criterion) → ◌≡◌ {A = Verdict} (elim c [ Some c ↦ No c | None ↦ yes_or_unknown (first_step verdict q) ]) (Yes s) → IsChosen q s
    by_criterion (Some c) e = cc
    by_criterion None e = by_step (first_step verdict q) chosen e
