-- The walk through the table: the first candidate of a part of it.
use Rattle.std.proofs.Common.{◌≡◌, ℕ, ◌+◌, ◌<◌, ◌≤◌, Bool, true, false, ◌&&◌, List, [], ◌∷◌, ◌++◌, refl, map, length, ap, sym, ◌∙◌, append_assoc, drop, arith}
use Rattle.std.specs.Prelude.{flat_map, if◌then◌else◌, Option, Some, None}
use Rattle.std.specs.List.{list_all}
use Rattle.std.proofs.lemmas.List.{map-append, append-nil, drop_all}
use Rattle.std.proofs.lemmas.Simd.{map-map}
use Rattle.counting.specs.Search.{upward}
use Rattle.design_base.specs.declared.query.Query.{Query}
use Rattle.design_base.specs.declared.rule.Kind.{Kind}
use Rattle.design_base.specs.declared.rule.Rule.{Rule}
use Rattle.design_base.specs.Rules.{rules, number_of_rule, serves, kind_of}
use Rattle.design_base.specs.Limits.{in_bounds}
use Rattle.design_base.specs.Steps.{Step, step, step_with}
use Rattle.counting.proofs.Upward.{upward-cons, upward-none}
use Rattle.smallvec.specs.SmallVec.{SmallVec}
use Rattle.rule_terms.specs.declared.branch.Branch.{Branch}
use Rattle.rule_terms.specs.declared.branch.Branch.TheVariants.{Parameter, Premises, Nothing}
use Rattle.rule_terms.specs.RuleTree.{RuleTree, when◌asks◌, from◌to◌take◌, choices, terms_at}
use Rattle.rule_terms.specs.Table.{terms}
use Rattle.rule_terms.specs.Branches.{IsBranch}
use Rattle.rule_table.specs.Candidates.{serving}
use Rattle.rule_table.specs.Walks.{head, choices_after, steps_under, steps_between, steps_behind, steps_by, steps_of, steps_after, rules_after}

-- what the terms are, by what they say first

pub terms_at-none : (t : RuleTree) → terms_at t [] ≡ t
terms_at-none (when c asks ps) = refl
terms_at-none (from a to b take f) = refl

pub next-parameter : (t : RuleTree) (xs : List ℕ) (low high : ℕ) → IsBranch (terms_at t xs) (Parameter low high)
    → terms_at t xs ≡ (from low to high take (λ x. terms_at t (xs ++ x ∷ [])))
next-parameter (when c asks ps) xs low high h = absurd h
next-parameter (from a to b take f) [] low high h = λ i. from sym h.0 i to sym h.1 i take (λ x. sym (terms_at-none (f x)) i)
next-parameter (from a to b take f) (y ∷ ys) low high h = next-parameter (f y) ys low high h

pub next-premises : (t : RuleTree) (list : SmallVec Query) → IsBranch t (Premises list) → t ≡ (when true asks list.items)
next-premises (when c asks ps) list h = λ i. when h.0 i asks sym h.1 i
next-premises (from a to b take f) list h = absurd h

pub next-nothing : (t : RuleTree) → IsBranch t Nothing → (ps : List Query) × (t ≡ (when false asks ps))
next-nothing (when c asks ps) h = (ps, λ i. when h i asks ps)
next-nothing (from a to b take f) h = absurd h

-- the first of two lists

head-found : {X : Type 0} (xs ys : List X) (x : X) → head xs ≡ Some x → head (xs ++ ys) ≡ Some x
head-found [] ys x e = absurd (cc)
head-found (y ∷ xs) ys x e = e

head-passed : {X : Type 0} (xs ys : List X) → head xs ≡ None → head (xs ++ ys) ≡ head ys
head-passed [] ys e = refl
head-passed (y ∷ xs) ys e = absurd (cc)

-- the steps of all choices are those of each first parameter
parts : (step_of : List ℕ → Step) (some : ℕ → List (List ℕ)) (us : List ℕ)
    → map step_of (flat_map (λ x. map (λ ys. x ∷ ys) (some x)) us) ≡ flat_map (λ x. map (λ ys. step_of (x ∷ ys)) (some x)) us
parts step_of some [] = refl
parts step_of some (u ∷ us) =
    map-append step_of (map (λ ys. u ∷ ys) (some u)) (flat_map (λ x. map (λ ys. x ∷ ys) (some x)) us)
    ∙ (λ i. map-map step_of (λ ys. u ∷ ys) (some u) i ++ parts step_of some us i)

module _ (q : Query) (r : Rule) (xs : List ℕ) where
  between-parts : (low high : ℕ)
      → map (λ ys. step_with r (xs ++ ys)) (flat_map (λ x. map (λ ys. x ∷ ys) (choices (terms_at (terms q r) (xs ++ x ∷ [])))) (upward low high)) ≡ steps_between q r xs low high
  unfolding steps_between steps_under
  between-parts low high =
      parts (λ ys. step_with r (xs ++ ys)) (λ x. choices (terms_at (terms q r) (xs ++ x ∷ []))) (upward low high)
      ∙ (λ i. flat_map (λ x. map (λ ys. step_with r (sym (append_assoc xs (x ∷ []) ys) i)) (choices (terms_at (terms q r) (xs ++ x ∷ [])))) (upward low high))

  pub under_parameter : (low high : ℕ) (o : Option Step) → IsBranch (terms_at (terms q r) xs) (Parameter low high) → o ≡ head (steps_between q r xs low high)
      → o ≡ head (steps_under q r xs)
  unfolding steps_under choices
  under_parameter low high o h e =
      e ∙ ap head (sym (ap (λ t. map (λ ys. step_with r (xs ++ ys)) (choices t)) (next-parameter (terms q r) xs low high h) ∙ between-parts low high))

  under-premises : (list : SmallVec Query) → IsBranch (terms_at (terms q r) xs) (Premises list)
      → head (steps_under q r xs) ≡ (if list_all in_bounds list.items then Some (step_with r xs) else None)
  unfolding steps_under choices
  under-premises list h =
      ap (λ t. head (map (λ ys. step_with r (xs ++ ys)) (choices t))) (next-premises (terms_at (terms q r) xs) list h) ∙ by (list_all in_bounds list.items)
    where
      by : (b : Bool) → head (map (λ ys. step_with r (xs ++ ys)) (if true && b then [] ∷ [] else [])) ≡ (if b then Some (step_with r xs) else None)
      by true = ap (λ zs. Some (step_with r zs)) (append-nil xs)
      by false = refl

  pub under_inside : (list : SmallVec Query) (s : Step) → IsBranch (terms_at (terms q r) xs) (Premises list) → true ≡ list_all in_bounds list.items → s ≡ step_with r xs
      → Some s ≡ head (steps_under q r xs)
  under_inside list s h e k = ap (λ (s : Step). Some s) k ∙ sym (under-premises list h ∙ ap (λ b. if b then Some (step_with r xs) else None) (sym e))

  pub under_outside : (list : SmallVec Query) → IsBranch (terms_at (terms q r) xs) (Premises list) → false ≡ list_all in_bounds list.items → None ≡ head (steps_under q r xs)
  under_outside list h e = sym (under-premises list h ∙ ap (λ b. if b then Some (step_with r xs) else None) (sym e))

  pub under_nothing : IsBranch (terms_at (terms q r) xs) Nothing → None ≡ head (steps_under q r xs)
  unfolding steps_under choices
  under_nothing h = ap (λ t. head (map (λ ys. step_with r (xs ++ ys)) (choices t))) (sym (next-nothing (terms_at (terms q r) xs) h).1)

  between-front : (low high : ℕ) → low ≤ high → steps_between q r xs low high ≡ steps_under q r (xs ++ low ∷ []) ++ steps_between q r xs (low + 1) high
  unfolding steps_between
  between-front low high h = ap (flat_map (λ x. steps_under q r (xs ++ x ∷ []))) (upward-cons low high h)

  pub between_found : (low high : ℕ) (ys : List ℕ) (o : Option Step) (s : Step) → o ≡ head (steps_between q r xs low high) → low ≤ high → ys ≡ xs ++ low ∷ []
      → Some s ≡ head (steps_under q r ys) → Some s ≡ o
  between_found low high ys o s i h k e =
      sym (i ∙ ap head (between-front low high h) ∙ head-found (steps_under q r (xs ++ low ∷ [])) (steps_between q r xs (low + 1) high) s
      (ap (λ ys. head (steps_under q r ys)) (sym k) ∙ sym e))

  pub between_passed : (low high : ℕ) (ys : List ℕ) (o : Option Step) → o ≡ head (steps_between q r xs low high) → low ≤ high → ys ≡ xs ++ low ∷ []
      → None ≡ head (steps_under q r ys) → o ≡ head (steps_between q r xs (low + 1) high)
  between_passed low high ys o i h k e =
      i ∙ ap head (between-front low high h) ∙ head-passed (steps_under q r (xs ++ low ∷ [])) (steps_between q r xs (low + 1) high)
      (ap (λ ys. head (steps_under q r ys)) (sym k) ∙ sym e)

  pub between_over : (low high : ℕ) (o : Option Step) → o ≡ head (steps_between q r xs low high) → high < low → None ≡ o
  unfolding steps_between
  between_over low high o i h = sym (i ∙ ap (λ us. head (flat_map (λ x. steps_under q r (xs ++ x ∷ [])) us)) (upward-none low high h))

  behind-front : (low high x : ℕ) (rest : List ℕ) → IsBranch (terms_at (terms q r) xs) (Parameter low high)
      → steps_behind q r xs (x ∷ rest) ≡ steps_behind q r (xs ++ x ∷ []) rest ++ steps_between q r xs (x + 1) high
  unfolding steps_behind choices_after
  behind-front low high x rest h =
      let own : List (List ℕ) = choices_after (terms_at (terms q r) (xs ++ x ∷ [])) rest in
      let later : List (List ℕ) = flat_map (λ y. map (λ ys. y ∷ ys) (choices (terms_at (terms q r) (xs ++ y ∷ [])))) (upward (x + 1) high) in
      ap (λ t. map (λ ys. step_with r (xs ++ ys)) (choices_after t (x ∷ rest))) (next-parameter (terms q r) xs low high h)
      ∙ map-append (λ ys. step_with r (xs ++ ys)) (map (λ ys. x ∷ ys) own) later
      ∙ (λ i. map-map (λ ys. step_with r (xs ++ ys)) (λ ys. x ∷ ys) own i ++ between-parts (x + 1) high i)
      ∙ (λ i. map (λ ys. step_with r (sym (append_assoc xs (x ∷ []) ys) i)) own ++ steps_between q r xs (x + 1) high)

  pub behind_found : (low high x : ℕ) (ys rest tail : List ℕ) (s : Step) → IsBranch (terms_at (terms q r) xs) (Parameter low high) → ys ≡ xs ++ x ∷ [] → rest ≡ x ∷ tail
      → Some s ≡ head (steps_behind q r ys tail) → Some s ≡ head (steps_behind q r xs rest)
  behind_found low high x ys rest tail s h k l e =
      sym (ap (λ l. head (steps_behind q r xs l)) l ∙ ap head (behind-front low high x tail h)
      ∙ head-found (steps_behind q r (xs ++ x ∷ []) tail) (steps_between q r xs (x + 1) high) s (ap (λ ys. head (steps_behind q r ys tail)) (sym k) ∙ sym e))

  pub behind_passed : (low high x : ℕ) (ys rest tail : List ℕ) (o : Option Step) → IsBranch (terms_at (terms q r) xs) (Parameter low high) → ys ≡ xs ++ x ∷ [] → rest ≡ x ∷ tail
      → None ≡ head (steps_behind q r ys tail) → o ≡ head (steps_between q r xs (x + 1) high) → o ≡ head (steps_behind q r xs rest)
  behind_passed low high x ys rest tail o h k l e i =
      i ∙ sym (ap (λ l. head (steps_behind q r xs l)) l ∙ ap head (behind-front low high x tail h)
      ∙ head-passed (steps_behind q r (xs ++ x ∷ []) tail) (steps_between q r xs (x + 1) high) (ap (λ ys. head (steps_behind q r ys tail)) (sym k) ∙ sym e))

  pub behind_none : (rest : List ℕ) (o : Option Step) → length rest ≡ 0 → o ≡ None → o ≡ head (steps_behind q r xs rest)
  unfolding steps_behind choices_after
  behind_none [] o e n = n ∙ by (terms_at (terms q r) xs)
    where
      by : (t : RuleTree) → None ≡ head (map (λ ys. step_with r (xs ++ ys)) (choices_after t []))
      by (when c asks ps) = refl
      by (from low to high take f) = refl
  behind_none (x ∷ rest) o e n = absurd (omega (arith, e))

  -- where no parameter is left
  pub behind_over : (n : Branch) (rest : List ℕ) → IsBranch (terms_at (terms q r) xs) n → ((low high : ℕ) → n ≡ Parameter low high → ⊥) → None ≡ head (steps_behind q r xs rest)
  unfolding steps_behind choices_after
  behind_over n rest = by (terms_at (terms q r) xs) n
    where
      by : (t : RuleTree) (n : Branch) → IsBranch t n → ((low high : ℕ) → n ≡ Parameter low high → ⊥) → None ≡ head (map (λ ys. step_with r (xs ++ ys)) (choices_after t rest))
      by (when c asks ps) n h other = refl
      by (from a to b take f) (Parameter low high) h other = absurd (other low high refl)
      by (from a to b take f) (Premises list) h other = absurd h
      by (from a to b take f) Nothing h other = absurd h

-- the candidates of a rule and of those behind it

module _ (q : Query) (r : Rule) where
  pub by_served : (kind : Kind) (served : Bool) (o : Option Step) → kind ≡ kind_of q → served ≡ serves kind r → served ≡ true → o ≡ head (steps_under q r [])
      → o ≡ head (steps_by q r)
  unfolding steps_by steps_under
  by_served kind served o d k e h =
      h ∙ ap (λ t. head (map (step_with r) (choices t))) (terms_at-none (terms q r))
      ∙ ap (λ b. head (if b then map (step_with r) (choices (terms q r)) else [])) (sym e ∙ k ∙ ap (λ kind. serves kind r) d)

  pub by_other : (kind : Kind) (served : Bool) → kind ≡ kind_of q → served ≡ serves kind r → served ≡ false → None ≡ head (steps_by q r)
  unfolding steps_by
  by_other kind served d k e = ap (λ b. head (if b then map (step_with r) (choices (terms q r)) else [])) (sym e ∙ k ∙ ap (λ kind. serves kind r) d)

pub rules-cons : (q : Query) (r : Rule) (rs : List Rule) → steps_of q (r ∷ rs) ≡ steps_by q r ++ steps_of q rs
unfolding steps_of steps_by
rules-cons q r rs = by (serves (kind_of q) r)
  where
    of : Rule → List Step
    of r = map (step_with r) (choices (terms q r))

    by : (b : Bool) → flat_map of (if b then r ∷ serving q rs else serving q rs) ≡ (if b then of r else []) ++ flat_map of (serving q rs)
    by true = refl
    by false = refl

rules-front : (q : Query) (i : ℕ) (r : Rule) → drop i rules ≡ r ∷ drop (i + 1) rules → steps_of q (drop i rules) ≡ steps_by q r ++ steps_of q (drop (i + 1) rules)
rules-front q i r at = ap (λ rs. steps_of q rs) at ∙ rules-cons q r (drop (i + 1) rules)

module _ (q : Query) (i : ℕ) (r : Rule) (o : Option Step) (h : o ≡ head (steps_of q (drop i rules))) (at : drop i rules ≡ r ∷ drop (i + 1) rules) where
  pub rules_found : (s : Step) → Some s ≡ head (steps_by q r) → Some s ≡ o
  rules_found s e = sym (h ∙ ap head (rules-front q i r at) ∙ head-found (steps_by q r) (steps_of q (drop (i + 1) rules)) s (sym e))

  pub rules_passed : None ≡ head (steps_by q r) → o ≡ head (steps_of q (drop (i + 1) rules))
  rules_passed e = h ∙ ap head (rules-front q i r at) ∙ head-passed (steps_by q r) (steps_of q (drop (i + 1) rules)) (sym e)

pub rules_over : (q : Query) (i : ℕ) (o : Option Step) → o ≡ head (steps_of q (drop i rules)) → length rules ≤ i → None ≡ o
unfolding steps_of
rules_over q i o h l = sym (h ∙ ap (λ rs. head (steps_of q rs)) (drop_all i rules l))

module _ (q : Query) (r : Rule) (a b c d : ℕ) (s : Step) (e : step r a b c d ≡ s) where
  pub after_found : (t : Step) → Some t ≡ head (steps_behind q r [] (a ∷ b ∷ c ∷ d ∷ [])) → Some t ≡ head (steps_after q s)
  unfolding steps_after
  after_found t h = sym (ap (λ s. head (steps_after q s)) (sym e) ∙ head-found (steps_behind q r [] (a ∷ b ∷ c ∷ d ∷ [])) (steps_of q (rules_after r)) t (sym h))

  pub after_passed : (n : ℕ) (o : Option Step) → None ≡ head (steps_behind q r [] (a ∷ b ∷ c ∷ d ∷ [])) → n ≡ number_of_rule r → o ≡ head (steps_of q (drop n rules))
      → o ≡ head (steps_after q s)
  unfolding steps_after
  after_passed n o h k i =
      i ∙ ap (λ n. head (steps_of q (drop n rules))) k
      ∙ sym (ap (λ s. head (steps_after q s)) (sym e) ∙ head-passed (steps_behind q r [] (a ∷ b ∷ c ∷ d ∷ [])) (steps_of q (rules_after r)) (sym h))

-- for the functions of the walk
pub ruleset first_under_laws = (under_parameter, under_inside, under_outside, under_nothing)

pub ruleset first_between_laws = (between_found, between_passed, between_over)

pub ruleset first_behind_laws = (behind_found, behind_passed, behind_none, behind_over)

pub ruleset first_of_rule_laws = (by_served, by_other)

pub ruleset first_of_rules_laws = (rules_found, rules_passed, rules_over)

pub ruleset following_laws = (after_found, after_passed)
