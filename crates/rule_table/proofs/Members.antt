-- A step that the table allows is one of the candidates, and the premises behind some parameters.
use Rattle.std.proofs.Common.{◌≡◌, ℕ, zero, suc, ◌-◌, Bool, true, false, ◌&&◌, List, [], ◌∷◌, ◌++◌, arith, refl, map, length, ap, sym, subst, ◌∙◌}
use Rattle.std.specs.Prelude.{flat_map, filter, if◌then◌else◌, is_some, ◌↔◌, ◌≤◌, IfSome, None, Option, Some}
use Rattle.design_base.specs.declared.limits.TheConstants.{PREMISES_MAX}
use Rattle.std.specs.List.{list_all, AllByRecursion, Contains}
use Rattle.counting.proofs.Booleans.{both, leb-true}
use Rattle.std.proofs.lemmas.List.Elements.{Contains-append_left, Contains-append_right}
use Rattle.counting.specs.Search.{upward}
use Rattle.counting.proofs.Upward.{Contains-upward}
use Rattle.design_base.specs.declared.query.Query.{Query}
use Rattle.design_base.specs.declared.rule.Kind.{Kind}
use Rattle.design_base.specs.declared.rule.Rule.{Rule}
use Rattle.design_base.specs.declared.rule.Rule.TheVariants.{TdOne}
use Rattle.design_base.specs.Rules.{rules, number_of_rule, serves, kind_of, title}
use Rattle.design_base.specs.Limits.{in_bounds, within}
use Rattle.design_base.specs.Steps.{Step, IsStep, step, step_with}
use Rattle.smallvec.specs.SmallVec.{SmallVec}
use Rattle.rule_terms.specs.declared.branch.Branch.TheVariants.{Parameter, Premises, Nothing}
use Rattle.rule_terms.specs.RuleTree.{RuleTree, when◌asks◌, from◌to◌take◌, choices, allows, premises_at, terms_at}
use Rattle.rule_terms.specs.Table.{terms}
use Rattle.rule_table.specs.Candidates.{FindsPremises, candidates, serving, is_candidate, premises, four}
use Rattle.rule_terms.specs.Rank.{rank}
use Rattle.rule_terms.specs.Branches.{IsBranch}
use Rattle.rule_table.proofs.Each.{each-passing}
use Rattle.rule_terms.proofs.Grounded.{IsGrounded}
use Rattle.rule_table.proofs.Passing.{candidates_are}
use Rattle.rule_terms.proofs.Rules.{grounded}
use Rattle.rule_table.proofs.Firsts.{terms_at-none, next-parameter, next-premises, next-nothing}

-- what is allowed, and the premises, by what the terms say first

module _ (t : RuleTree) (xs rest : List ℕ) (low high : ℕ) (h : IsBranch (terms_at t xs) (Parameter low high)) where
  further : (x : ℕ) (ys tail : List ℕ) → ys ≡ xs ++ x ∷ [] → rest ≡ x ∷ tail → allows (terms_at t xs) rest ≡ (within low high x && allows (terms_at t ys) tail)
  unfolding allows
  further x ys tail e k = (λ i. allows (next-parameter t xs low high h i) (k i)) ∙ (λ i. within low high x && allows (terms_at t (sym e i)) tail)

  allows_inside : (x : ℕ) (ys tail : List ℕ) (b : Bool) → ys ≡ xs ++ x ∷ [] → rest ≡ x ∷ tail → within low high x ≡ true → b ≡ allows (terms_at t ys) tail
      → b ≡ allows (terms_at t xs) rest
  allows_inside x ys tail b e k w r = r ∙ sym (further x ys tail e k ∙ ap (λ v. v && allows (terms_at t ys) tail) w)

  allows_outside : (x : ℕ) (tail : List ℕ) (b : Bool) → rest ≡ x ∷ tail → false ≡ within low high x → b ≡ false → b ≡ allows (terms_at t xs) rest
  allows_outside x tail b k w f =
      f ∙ sym (further x (xs ++ x ∷ []) tail refl k ∙ ap (λ v. v && allows (terms_at t (xs ++ x ∷ [])) tail) (sym w))

  premises_further : (x : ℕ) (ys tail : List ℕ) (ps : List Query) → ys ≡ xs ++ x ∷ [] → rest ≡ x ∷ tail → ps ≡ premises_at (terms_at t ys) tail
      → ps ≡ premises_at (terms_at t xs) rest
  unfolding premises_at
  premises_further x ys tail ps e k r = r ∙ (λ i. premises_at (terms_at t (e i)) tail) ∙ (λ i. premises_at (sym (next-parameter t xs low high h) i) (sym k i))

  pub found_inside : (x : ℕ) (ys tail : List ℕ) (found : Option (SmallVec Query)) → ys ≡ xs ++ x ∷ [] → rest ≡ x ∷ tail → within low high x ≡ true
      → FindsPremises (terms_at t ys) tail found → FindsPremises (terms_at t xs) rest found
  found_inside x ys tail None e k w f = sym (allows_inside x ys tail false e k w (sym f))
  found_inside x ys tail (Some list) e k w f = (sym (allows_inside x ys tail true e k w (sym f.0)), premises_further x ys tail list.items e k f.1, f.2)

  pub found_outside : (x : ℕ) (tail : List ℕ) → rest ≡ x ∷ tail → within low high x ≡ false → FindsPremises (terms_at t xs) rest None
  found_outside x tail k w = sym (allows_outside x tail false k (sym w) refl)

module _ (t : RuleTree) (xs rest : List ℕ) (low high : ℕ) (h : IsBranch (terms_at t xs) (Parameter low high)) (e : length rest ≡ 0) where
  pub found_short : FindsPremises (terms_at t xs) rest None
  unfolding allows
  found_short = by rest e
    where
      by : (rest : List ℕ) → length rest ≡ 0 → allows (terms_at t xs) rest ≡ false
      by [] e = ap (λ t. allows t []) (next-parameter t xs low high h)
      by (x ∷ rest) e = absurd (omega (arith, e))

module _ (t : RuleTree) (rest : List ℕ) where
  allows_premises : (list : SmallVec Query) → IsBranch t (Premises list) → allows t rest ≡ list_all in_bounds list.items
  unfolding allows
  allows_premises list h = ap (λ t. allows t rest) (next-premises t list h)

  pub found_premises : (list : SmallVec Query) → IsBranch t (Premises list) → list_all in_bounds list.items ≡ true → length list.items ≤ PREMISES_MAX → FindsPremises t rest (Some list)
  unfolding premises_at
  found_premises list h b few = (allows_premises list h ∙ b, ap (λ t. premises_at t rest) (sym (next-premises t list h)), few)

  pub found_unbounded : (list : SmallVec Query) → IsBranch t (Premises list) → list_all in_bounds list.items ≡ false → FindsPremises t rest None
  found_unbounded list h b = allows_premises list h ∙ b

  pub found_nothing : IsBranch t Nothing → FindsPremises t rest None
  unfolding allows
  found_nothing h = ap (λ t. allows t rest) (next-nothing t h).1

-- elements of lists

module _ {X Y : Type 0} where
  Contains-map : (f : X → Y) (xs : List X) (x : X) → Contains xs x → Contains (map f xs) (f x)
  Contains-map f [] x (k, l, e) = absurd (omega (arith, l))
  Contains-map f (y ∷ xs) x (zero, l, e) = (0, omega arith, ap f e)
  Contains-map f (y ∷ xs) x (suc k, l, e) = let c = Contains-map f xs x (k, omega (arith, l), e) in (suc c.0, omega (arith, c.1), c.2)

  Contains-flat_map : (f : X → List Y) (xs : List X) (x : X) (y : Y) → Contains xs x → Contains (f x) y → Contains (flat_map f xs) y
  Contains-flat_map f [] x y (k, l, e) c = absurd (omega (arith, l))
  Contains-flat_map f (z ∷ xs) x y (zero, l, e) c = Contains-append_left (f z) (flat_map f xs) y (subst (λ w. Contains (f w) y) (sym e) c)
  Contains-flat_map f (z ∷ xs) x y (suc k, l, e) c = Contains-append_right (f z) (flat_map f xs) y (Contains-flat_map f xs x y (k, omega (arith, l), e) c)

each-Contains : {X : Type 0} (P : X → Type 0) (xs : List X) (x : X) → AllByRecursion P xs → Contains xs x → P x
each-Contains P [] x a (k, l, e) = absurd (omega (arith, l))
each-Contains P (y ∷ xs) x a (zero, l, e) = subst P e a.0
each-Contains P (y ∷ xs) x a (suc k, l, e) = each-Contains P xs x a.1 (k, omega (arith, l), e)

Contains-filter : {X : Type 0} (test : X → Bool) (xs : List X) (x : X) → test x ≡ true → Contains xs x → Contains (filter test xs) x
Contains-filter test [] x t (k, l, e) = absurd (omega (arith, l))
Contains-filter {X = X} test (y ∷ xs) x t (zero, l, e) = first (test y) (ap test e ∙ t)
  where
    first : (b : Bool) → b ≡ true → Contains (if b then y ∷ filter test xs else filter test xs) x
    first true h = (0, omega arith, e)
    first false h = absurd (cc)
Contains-filter {X = X} test (y ∷ xs) x t (suc k, l, e) = later (test y) (Contains-filter test xs x t (k, omega (arith, l), e))
  where
    later : (b : Bool) → Contains (filter test xs) x → Contains (if b then y ∷ filter test xs else filter test xs) x
    later true c = (suc c.0, omega (arith, c.1), c.2)
    later false c = c

Contains-rules : (r : Rule) → Contains rules r
Contains-rules TdOne = (0, omega arith, refl)
Contains-rules r = (number_of_rule r - 1, omega arith, refl)

-- parameters that are allowed begin with n that are chosen
record Begins (n : ℕ) (t : RuleTree) (ys : List ℕ) : Type 0 where
  pub first : List ℕ
  pub rest : List ℕ
  pub chosen : Contains (choices t) first
  pub whole : ys ≡ first ++ rest
  pub many : length first ≡ n

allowed_begins : (n r : ℕ) (t : RuleTree) (ys : List ℕ) → IsGrounded n r t → allows t ys ≡ true → Begins n t ys
unfolding choices allows
allowed_begins n r (when c asks ps) ys g h =
    let a = both c (list_all in_bounds ps) h in
    record { first = []; rest = ys; chosen = only (c && list_all in_bounds ps) h; whole = refl; many = sym (g a.0 (each-passing in_bounds ps a.1)).last }
  where
    only : (b : Bool) → b ≡ true → Contains {X = List ℕ} (if b then [] ∷ [] else []) []
    only true e = (0, omega arith, refl)
    only false e = cc
allowed_begins zero r (from low to high take f) ys g h = absurd g
allowed_begins (suc n) r (from low to high take f) [] g h = cc
allowed_begins (suc n) r (from low to high take f) (x ∷ ys) g h =
    let a = both (within low high x) (allows (f x) ys) h in
    let w = both _ _ a.0 in
    let b = allowed_begins n r (f x) ys (g x) a.1 in
    record {
      first = x ∷ b.first;
      rest = b.rest;
      chosen = Contains-flat_map (λ x. map (λ xs. x ∷ xs) (choices (f x))) (upward low high) x (x ∷ b.first)
          (Contains-upward low high x (leb-true _ _ w.0) (leb-true _ _ w.1)) (Contains-map (λ xs. x ∷ xs) (choices (f x)) b.first b.chosen);
      whole = ap (λ zs. x ∷ zs) b.whole;
      many = ap suc b.many;
    }

-- a step is that of the parameters that its own begin with, where those are as many as its rule has
step_back : (s : Step) → IsStep s → (xs zs : List ℕ) → four s ≡ xs ++ zs → length xs ≡ (title s.rule).parameters → step_with s.rule xs ≡ s
step_back s i [] zs e n = λ j. step s.rule (sym (i.a_used (omega (arith, n))) j) (sym (i.b_used (omega (arith, n))) j) (sym (i.c_used (omega (arith, n))) j) (sym (i.d_used (omega (arith, n))) j)
step_back s i (a ∷ []) zs e n = let ea : a ≡ s.a = cc in λ j. step s.rule (ea j) (sym (i.b_used (omega (arith, n))) j) (sym (i.c_used (omega (arith, n))) j) (sym (i.d_used (omega (arith, n))) j)
step_back s i (a ∷ b ∷ []) zs e n = let ea : a ≡ s.a = cc in let eb : b ≡ s.b = cc in λ j. step s.rule (ea j) (eb j) (sym (i.c_used (omega (arith, n))) j) (sym (i.d_used (omega (arith, n))) j)
step_back s i (a ∷ b ∷ c ∷ []) zs e n = let ea : a ≡ s.a = cc in let eb : b ≡ s.b = cc in let ec : c ≡ s.c = cc in λ j. step s.rule (ea j) (eb j) (ec j) (sym (i.d_used (omega (arith, n))) j)
step_back s i (a ∷ b ∷ c ∷ d ∷ []) zs e n = let ea : a ≡ s.a = cc in let eb : b ≡ s.b = cc in let ec : c ≡ s.c = cc in let ed : d ≡ s.d = cc in λ j. step s.rule (ea j) (eb j) (ec j) (ed j)
step_back s i (a ∷ b ∷ c ∷ d ∷ f ∷ xs) zs e n = absurd (cc)

allowed_in : (q : Query) (s : Step) → in_bounds q ≡ true → IsStep s → is_candidate q s ≡ true → Contains (candidates q) s
unfolding candidates is_candidate
allowed_in q s bounds i h =
    let a = both (serves (kind_of q) s.rule) (allows (terms q s.rule) (four s)) h in
    let b = allowed_begins (title s.rule).parameters (rank q) (terms q s.rule) (four s) (grounded q bounds s.rule) a.1 in
    subst (λ t. Contains (candidates q) t) (step_back s i b.first b.rest b.whole b.many)
    (Contains-flat_map (λ r. map (step_with r) (choices (terms q r))) (serving q rules) s.rule (step_with s.rule b.first)
    (Contains-filter (serves (kind_of q)) rules s.rule a.0 (Contains-rules s.rule))
    (Contains-map (step_with s.rule) (choices (terms q s.rule)) b.first b.chosen))

-- the candidates are the steps that the test of candidates tells
pub candidate_is_in : (q : Query) (s : Step) → in_bounds q ≡ true → IsStep s → (is_candidate q s ≡ true) ↔ Contains (candidates q) s
candidate_is_in q s b i = (allowed_in q s b i, each-Contains (λ s. is_candidate q s ≡ true) (candidates q) s (candidates_are q b))

-- the same of a step as the code has it

module _ (q : Query) (r : Rule) (a b c d : ℕ) (s : Step) (e : step r a b c d ≡ s) where
  passes : is_candidate q s ≡ (serves (kind_of q) r && allows (terms_at (terms q r) []) (a ∷ b ∷ c ∷ d ∷ []))
  unfolding is_candidate
  passes = ap (is_candidate q) (sym e) ∙ (λ i. serves (kind_of q) r && allows (sym (terms_at-none (terms q r)) i) (a ∷ b ∷ c ∷ d ∷ []))

  candidate_told : (kind : Kind) (served told : Bool) → kind ≡ kind_of q → served ≡ serves kind r → served ≡ true
      → told ≡ allows (terms_at (terms q r) []) (a ∷ b ∷ c ∷ d ∷ []) → told ≡ is_candidate q s
  candidate_told kind served told k h y t =
      t ∙ sym (passes ∙ ap (λ v. v && allows (terms_at (terms q r) []) (a ∷ b ∷ c ∷ d ∷ [])) (ap (λ k. serves k r) (sym k) ∙ sym h ∙ y))

  -- a step of another kind
  pub candidate_other : (kind : Kind) (served : Bool) → kind ≡ kind_of q → served ≡ serves kind r → served ≡ false → is_candidate q s ≡ false
  candidate_other kind served k h n = passes ∙ ap (λ v. v && allows (terms_at (terms q r) []) (a ∷ b ∷ c ∷ d ∷ [])) (ap (λ k. serves k r) (sym k) ∙ sym h ∙ n)

  -- what is found of the parameters of a step
  module _ (kind : Kind) (served : Bool) (k : kind ≡ kind_of q) (h : served ≡ serves kind r) (y : served ≡ true) where
    pub candidate_none : (found : Option (SmallVec Query)) → FindsPremises (terms_at (terms q r) []) (a ∷ b ∷ c ∷ d ∷ []) found → found ≡ None → is_candidate q s ≡ false
    candidate_none None f e = sym (candidate_told kind served false k h y (sym f))
    candidate_none (Some list) f e = cc

    pub candidate_some : (found : Option (SmallVec Query)) → FindsPremises (terms_at (terms q r) []) (a ∷ b ∷ c ∷ d ∷ []) found → IfSome found (λ list. is_candidate q s ≡ true)
    candidate_some None f = tt
    candidate_some (Some list) f = sym (candidate_told kind served true k h y (sym f.0))

  pub candidate_items : (found : Option (SmallVec Query)) → FindsPremises (terms_at (terms q r) []) (a ∷ b ∷ c ∷ d ∷ []) found → IfSome found (λ list. list.items ≡ premises q s)
  unfolding premises
  candidate_items None f = tt
  candidate_items (Some list) f = f.1 ∙ (λ i. premises_at (terms_at-none (terms q r) i) (a ∷ b ∷ c ∷ d ∷ [])) ∙ ap (premises q) e

  pub candidate_few : (found : Option (SmallVec Query)) → FindsPremises (terms_at (terms q r) []) (a ∷ b ∷ c ∷ d ∷ []) found → IfSome found (λ list. length list.items ≤ PREMISES_MAX)
  candidate_few None f = tt
  candidate_few (Some list) f = f.2

-- whether something is found tells whether the step is a candidate
pub candidate_found : {X : Type 0} (found : Option X) (told candidate : Bool) → told ≡ is_some found → (found ≡ None → candidate ≡ false) → IfSome found (λ x. candidate ≡ true) → told ≡ candidate
candidate_found None told candidate t n s = t ∙ sym (n refl)
candidate_found (Some x) told candidate t n s = t ∙ sym s

pub member_found : (q : Query) (s : Step) (told : Bool) → in_bounds q ≡ true → IsStep s → told ≡ is_candidate q s → (told ≡ true) ↔ Contains (candidates q) s
member_found q s told h i t = let m = candidate_is_in q s h i in (λ y. m.0 (sym t ∙ y), λ y. t ∙ m.1 y)

pub ruleset allowed_laws = (found_inside, found_outside, found_short, found_premises, found_unbounded, found_nothing)

pub ruleset candidate_laws = (candidate_none, candidate_some, candidate_items, candidate_few, candidate_other)
