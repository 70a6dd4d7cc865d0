-- A question to which no criterion applies is Yes where the premises of one of its candidates are.
use Rattle.std.proofs.Common.{◌≡◌, zero, suc, Bool, true, false, List, [], ◌∷◌, arith, refl, ap, sym, subst, ◌∙◌}
use Rattle.counting.proofs.Booleans.{and_from}
use Rattle.std.specs.Prelude.{Option, Some, None, Contains}
use Rattle.std.specs.List.{AllByRecursion}
use Rattle.counting.specs.Search.{first_in, each_passes}
use Rattle.design_base.specs.declared.query.Query.{Query}
use Rattle.design_base.specs.declared.rule.Rule.{Rule}
use Rattle.design_base.specs.declared.verdict.Criterion.{Criterion}
use Rattle.design_base.specs.declared.verdict.Verdict.TheVariants.{No}
use Rattle.design_base.specs.Limits.{in_bounds}
use Rattle.design_base.specs.Rules.{serves, kind_of}
use Rattle.design_base.specs.Steps.{Step, IsStep, step}
use Rattle.criteria.specs.Criteria.{criterion_of}
use Rattle.rule_table.specs.Candidates.{candidates, premises, is_candidate}
use Rattle.rule_terms.specs.Table.{terms}
use Rattle.rule_terms.specs.RuleTree.{when◌asks◌, allows, premises_at}
use Rattle.rule_table.specs.Verdicts.{judged, verdict, first_step, is_yes, yes_or_unknown}
use Rattle.rule_table.proofs.Members.{candidate_is_in}
use Rattle.rule_table.proofs.Unfolds.{verdict_unfolds}

module _ {X : Type 0} where
  -- where an element passes, one is found
  first_in-some : (test : X → Bool) (xs : List X) (y : X) → Contains xs y → test y ≡ true → (z : X) × (first_in test xs ≡ Some z)
  unfolding first_in
  first_in-some test [] y (k, l, e) t = absurd (omega (arith, l))
  first_in-some test (x ∷ xs) y (zero, l, e) t = found (test x) (ap test e ∙ t)
    where
      found : (b : Bool) → b ≡ true → (z : X) × ◌≡◌ {A = Option X} (elim b [ true ↦ Some x | false ↦ first_in test xs ]) (Some z)
      found true e = (x, refl)
      found false e = cc
  first_in-some test (x ∷ xs) y (suc k, l, e) t = later (test x) (first_in-some test xs y (k, omega (arith, l), e) t)
    where
      later : (b : Bool) → (z : X) × (first_in test xs ≡ Some z) → (z : X) × ◌≡◌ {A = Option X} (elim b [ true ↦ Some x | false ↦ first_in test xs ]) (Some z)
      later true r = (x, refl)
      later false r = r

  each_passes-all : (test : X → Bool) (xs : List X) → AllByRecursion (λ x. test x ≡ true) xs → each_passes test xs ≡ true
  unfolding each_passes
  each_passes-all test [] a = refl
  each_passes-all test (x ∷ xs) a = on (test x) a.0 (each_passes-all test xs a.1)
    where
      on : (b : Bool) → b ≡ true → each_passes test xs ≡ true → ◌≡◌ {A = Bool} (elim b [ true ↦ each_passes test xs | false ↦ false ]) true
      on true e r = r
      on false e r = cc

abbrev pub IsYes : Query → Type 0
IsYes q = is_yes (verdict q) ≡ true

pub proved_by : (q : Query) (s : Step) → in_bounds q ≡ true → criterion_of q ≡ None → IsStep s → is_candidate q s ≡ true → AllByRecursion IsYes (premises q s) → IsYes q
unfolding judged
proved_by q s b c i k a =
    let f = first_in-some (λ s. each_passes (λ p. is_yes (verdict p)) (premises q s)) (candidates q) s ((candidate_is_in q s b i).0 k)
    (each_passes-all (λ p. is_yes (verdict p)) (premises q s) a) in
    ap is_yes (verdict_unfolds q b) ∙ by (criterion_of q) c (ap (λ o. is_yes (yes_or_unknown o)) f.1)
  where
    by : (o : Option Criterion) → o ≡ None → is_yes (yes_or_unknown (first_step verdict q)) ≡ true
        → is_yes (elim o [ Some c ↦ No c | None ↦ yes_or_unknown (first_step verdict q) ]) ≡ true
    by None e r = r
    by (Some c) e r = cc

-- by a rule without parameters and premises
pub proved_alone : (q : Query) (r : Rule) (condition : Bool) → in_bounds q ≡ true → criterion_of q ≡ None → serves (kind_of q) r ≡ true
    → terms q r ≡ (when condition asks []) → condition ≡ true → IsYes q
unfolding is_candidate allows premises premises_at
proved_alone q r condition b c k t e =
    proved_by q (step r 0 0 0 0) b c
    (record { a_small = omega arith; b_small = omega arith; c_small = omega arith; d_small = omega arith; a_used = λ _. refl; b_used = λ _. refl; c_used = λ _. refl; d_used = λ _. refl })
    (and_from _ _ k (ap (λ t. allows t (0 ∷ 0 ∷ 0 ∷ 0 ∷ [])) t ∙ and_from _ _ e refl))
    (subst (AllByRecursion IsYes) (sym (ap (λ t. premises_at t (0 ∷ 0 ∷ 0 ∷ 0 ∷ [])) t)) tt)
