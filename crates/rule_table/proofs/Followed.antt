-- Behind each candidate stand the candidates that the walk finds behind it.
use Rattle.std.proofs.Common.{◌≡◌, ℕ, zero, suc, ◌+◌, ◌-◌, Bool, true, false, ◌&&◌, List, [], ◌∷◌, ◌++◌, arith, refl, map, length, ap, sym, subst, ◌∙◌, drop, get_or}
use Rattle.std.specs.Prelude.{flat_map, if◌then◌else◌, Option, Some}
use Rattle.std.specs.List.{list_all}
use Rattle.std.proofs.lemmas.List.{drop_all, drop_more, get_or-map}
use Rattle.counting.specs.Sums.{join_below, list_below}
use Rattle.counting.specs.Search.{upward}
use Rattle.counting.proofs.Ranges.{get_or-list_below}
use Rattle.design_base.specs.declared.query.Query.{Query}
use Rattle.design_base.specs.declared.rule.Rule.{Rule}
use Rattle.design_base.specs.declared.rule.Rule.TheVariants.{TdOne}
use Rattle.design_base.specs.Rules.{rules, number_of_rule, serves, kind_of, title}
use Rattle.design_base.specs.Limits.{in_bounds}
use Rattle.design_base.specs.Steps.{Step, step_with}
use Rattle.counting.proofs.Upward.{upward-cons, upward-none}
use Rattle.rule_terms.specs.RuleTree.{RuleTree, when◌asks◌, from◌to◌take◌, choices}
use Rattle.rule_terms.specs.Table.{terms}
use Rattle.rule_table.specs.Candidates.{candidates, four}
use Rattle.rule_terms.specs.Rank.{rank}
use Rattle.rule_table.specs.Walks.{head, choices_after, steps_behind, steps_by, steps_of, steps_after, steps_from, rules_after}
use Rattle.rule_table.proofs.Each.{each-passing}
use Rattle.rule_terms.proofs.Grounded.{IsGrounded, few_parameters}
use Rattle.rule_table.proofs.Passing.{four_of}
use Rattle.rule_terms.proofs.Rules.{grounded}
use Rattle.rule_table.proofs.Firsts.{rules-cons, terms_at-none}

-- each has n parameters, and those after it are the choices behind it
abbrev Follow : ℕ → RuleTree → List (List ℕ) → Type 0
Follow n t [] = Unit {0}
Follow n t (v ∷ vs) = (length v ≡ n) × ((zs : List ℕ) → choices_after t (v ++ zs) ≡ vs) × Follow n t vs

abbrev all_of : (ℕ → RuleTree) → List ℕ → List (List ℕ)
all_of f us = flat_map (λ y. map (λ ys. y ∷ ys) (choices (f y))) us

module _ (n low high : ℕ) (f : ℕ → RuleTree) where
  -- the choices with the first parameter x, and those with a greater one
  follow-joined : (x : ℕ) (vs : List (List ℕ)) → Follow n (f x) vs → Follow (suc n) (from low to high take f) (all_of f (upward (x + 1) high))
      → Follow (suc n) (from low to high take f) (map (λ ys. x ∷ ys) vs ++ all_of f (upward (x + 1) high))
  unfolding choices_after
  follow-joined x [] a b = b
  follow-joined x (v ∷ vs) a b =
      (ap suc a.0, λ zs. ap (λ ws. map (λ ys. x ∷ ys) ws ++ all_of f (upward (x + 1) high)) (a.1 zs), follow-joined x vs a.2 b)

  follow-upward : (m x : ℕ) → high + 1 - x ≡ m → ((y : ℕ) → Follow n (f y) (choices (f y))) → Follow (suc n) (from low to high take f) (all_of f (upward x high))
  follow-upward zero x e h = subst (λ us. Follow (suc n) (from low to high take f) (all_of f us)) (sym (upward-none x high (omega arith))) tt
  follow-upward (suc m) x e h =
      subst (λ us. Follow (suc n) (from low to high take f) (all_of f us)) (sym (upward-cons x high (omega arith)))
      (follow-joined x (choices (f x)) (h x) (follow-upward m (x + 1) (omega arith) h))

choices_follow : (n r : ℕ) (t : RuleTree) → IsGrounded n r t → Follow n t (choices t)
unfolding choices choices_after
choices_follow n r (when c asks ps) g = by c (list_all in_bounds ps) (λ h k. (g h (each-passing in_bounds ps k)).last)
  where
    by : (a b : Bool) → (a ≡ true → b ≡ true → n ≡ 0) → Follow n (when c asks ps) (if a && b then [] ∷ [] else [])
    by true true d = (sym (d refl refl), λ zs. refl, tt)
    by true false d = tt
    by false b d = tt
choices_follow zero r (from low to high take f) g = absurd g
choices_follow (suc n) r (from low to high take f) g = follow-upward n low high f (high + 1 - low) low refl (λ y. choices_follow n r (f y) (g y))

after_follow : (n r : ℕ) (t : RuleTree) (ws : List ℕ) → IsGrounded n r t → Follow n t (choices_after t ws)
unfolding choices_after
after_follow n r (when c asks ps) ws g = tt
after_follow zero r (from low to high take f) ws g = absurd g
after_follow (suc n) r (from low to high take f) [] g = tt
after_follow (suc n) r (from low to high take f) (x ∷ ws) g =
    follow-joined n low high f x (choices_after (f x) ws) (after_follow n r (f x) ws (g x))
    (follow-upward n low high f (high + 1 - (x + 1)) (x + 1) refl (λ y. choices_follow n r (f y) (g y)))

-- the steps after each step are those behind it
abbrev StepsFollow : Query → List Step → Type 0
StepsFollow q [] = Unit {0}
StepsFollow q (s ∷ ss) = (steps_after q s ≡ ss) × StepsFollow q ss

-- a first step and those behind it
split-first : (q : Query) (ss : List Step) → StepsFollow q ss → ss ≡ steps_from q (head ss)
split-first q [] h = refl
split-first q (s ∷ ss) h = ap (λ l. s ∷ l) (sym h.0)

-- choices of a rule, with the candidates of the rules behind it
rule_follow : (q : Query) (r : Rule) (vs : List (List ℕ)) → Follow (title r).parameters (terms q r) vs → StepsFollow q (steps_of q (rules_after r))
    → StepsFollow q (map (step_with r) vs ++ steps_of q (rules_after r))
unfolding steps_after steps_behind
rule_follow q r [] a b = b
rule_follow q r (v ∷ vs) a b =
    let f = four_of r v (omega (arith, a.0, few_parameters r)) in (
      (λ i. map (step_with r) (choices_after (terms_at-none (terms q r) i) (f.1 i)) ++ steps_of q (rules_after r))
          ∙ ap (λ ws. map (step_with r) ws ++ steps_of q (rules_after r)) (a.1 f.0),
      rule_follow q r vs a.2 b,
    )

-- the rules stand in the order of their numbers
numbered : map number_of_rule rules ≡ list_below (length rules) (λ i. i + 1)
unfolding join_below
numbered = refl

-- the candidates of a rule, with those of the rules behind it
by_follow : (q : Query) (r : Rule) → in_bounds q ≡ true → StepsFollow q (steps_of q (rules_after r)) → StepsFollow q (steps_by q r ++ steps_of q (rules_after r))
unfolding steps_by
by_follow q r b behind = by (serves (kind_of q) r)
  where
    by : (served : Bool) → StepsFollow q ((if served then map (step_with r) (choices (terms q r)) else []) ++ steps_of q (rules_after r))
    by true = rule_follow q r (choices (terms q r)) (choices_follow (title r).parameters (rank q) (terms q r) (grounded q b r)) behind
    by false = behind

rules_follow : (q : Query) → in_bounds q ≡ true → (n i : ℕ) → length rules - i ≡ n → StepsFollow q (steps_of q (drop i rules))
unfolding steps_of
rules_follow q b zero i e = subst (λ rs. StepsFollow q (steps_of q rs)) (sym (drop_all i rules (omega arith))) tt
rules_follow q b (suc n) i e =
    let r : Rule = get_or rules i TdOne in
    let number : number_of_rule r ≡ i + 1 =
    sym (get_or-map number_of_rule rules i TdOne 0 (omega arith)) ∙ ap (λ l. get_or l i 0) numbered ∙ get_or-list_below (length rules) (λ i. i + 1) i 0 (omega arith) in
    let behind : StepsFollow q (steps_of q (rules_after r)) = subst (λ j. StepsFollow q (steps_of q (drop j rules))) (sym number) (rules_follow q b n (i + 1) (omega arith)) in
    subst (λ rs. StepsFollow q (steps_of q rs)) (ap (λ j. r ∷ drop j rules) number ∙ sym (drop_more rules i TdOne (omega arith)))
    (subst (λ (ss : List Step). StepsFollow q ss) (sym (rules-cons q r (rules_after r))) (by_follow q r b behind))

-- the candidates: the first one, and those behind it
pub from_first : (q : Query) (first : Option Step) → in_bounds q ≡ true → first ≡ head (steps_of q rules) → steps_from q first ≡ candidates q
unfolding candidates steps_of
from_first q first b e = ap (steps_from q) e ∙ sym (split-first q (steps_of q rules) (rules_follow q b (length rules) 0 refl))

-- the candidates behind a step: the first one, and those behind that
of_after : (q : Query) (s : Step) → in_bounds q ≡ true → steps_after q s ≡ steps_from q (head (steps_after q s))
unfolding steps_after steps_behind
of_after q s b =
    split-first q (steps_after q s)
    (subst (λ t. StepsFollow q (map (step_with s.rule) (choices_after t (four s)) ++ steps_of q (rules_after s.rule))) (sym (terms_at-none (terms q s.rule)))
    (rule_follow q s.rule (choices_after (terms q s.rule) (four s)) (after_follow (title s.rule).parameters (rank q) (terms q s.rule) (four s) (grounded q b s.rule))
    (rules_follow q b (length rules - number_of_rule s.rule) (number_of_rule s.rule) refl)))

-- one step further
pub from_next : (q : Query) (s : Step) (next : Option Step) → in_bounds q ≡ true → next ≡ head (steps_after q s) → steps_from q (Some s) ≡ s ∷ steps_from q next
from_next q s next b e = ap (λ l. s ∷ l) (of_after q s b ∙ ap (steps_from q) (sym e))
