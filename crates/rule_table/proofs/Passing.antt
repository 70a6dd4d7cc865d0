-- A candidate passes the test of candidates; its premises are few, in bounds and of smaller rank.
use Rattle.std.proofs.Common.{◌≡◌, ℕ, zero, suc, ◌<◌, ◌≤◌, true, ◌&&◌, List, [], ◌∷◌, ◌++◌, arith, refl, map, length, sym, subst}
use Rattle.std.specs.List.{AllByRecursion, list_all}
use Rattle.std.proofs.lemmas.Bool.Decides.{nat_tests}
use Rattle.counting.proofs.Booleans.{and_from, both}
use Rattle.counting.specs.Search.{upward}
use Rattle.design_base.specs.declared.limits.TheConstants.{PREMISES_MAX}
use Rattle.design_base.specs.declared.query.Query.{Query}
use Rattle.design_base.specs.declared.rule.Rule.{Rule}
use Rattle.design_base.specs.Limits.{in_bounds, within}
use Rattle.design_base.specs.Rules.{rules, serves, kind_of, title}
use Rattle.design_base.specs.Steps.{Step, step_with}
use Rattle.rule_terms.specs.RuleTree.{RuleTree, when◌asks◌, from◌to◌take◌, choices, allows, premises_at}
use Rattle.rule_terms.specs.Table.{terms}
use Rattle.rule_table.specs.Candidates.{candidates, serving, premises, four, is_candidate}
use Rattle.rule_terms.specs.Rank.{rank}
use Rattle.rule_terms.proofs.Grounded.{IsGrounded, few_parameters}
use Rattle.rule_terms.proofs.Rules.{grounded}
use Rattle.counting.proofs.Upward.{each-upward}
use Rattle.rule_table.proofs.Each.{each-both, each-weaker, each-passing, each-map, each-flat_map, each-filtered, guarded}

-- whatever stands behind the parameters, they are allowed; there are at most n
abbrev IsAllowed : ℕ → RuleTree → List ℕ → Type 0
IsAllowed n t xs = (length xs ≤ n) × ((zs : List ℕ) → allows t (xs ++ zs) ≡ true)

choices_allowed : (n r : ℕ) (t : RuleTree) → IsGrounded n r t → AllByRecursion (IsAllowed n t) (choices t)
unfolding choices allows
choices_allowed n r (when c asks ps) g = guarded (IsAllowed n (when c asks ps)) (c && list_all in_bounds ps) [] (λ e. (omega arith, λ zs. e))
choices_allowed zero r (from low to high take f) g = absurd g
choices_allowed (suc n) r (from low to high take f) g =
    each-flat_map (IsAllowed (suc n) (from low to high take f)) (λ x. map (λ xs. x ∷ xs) (choices (f x))) (upward low high)
    (each-upward (λ x. AllByRecursion (IsAllowed (suc n) (from low to high take f)) (map (λ xs. x ∷ xs) (choices (f x)))) low high
    (λ x l u. each-map (IsAllowed (suc n) (from low to high take f)) (λ xs. x ∷ xs) (choices (f x))
    (each-weaker (IsAllowed n (f x)) (λ xs. IsAllowed (suc n) (from low to high take f) (x ∷ xs)) (choices (f x))
    (λ xs a. (omega (arith, a.0), λ zs. and_from (within low high x) (allows (f x) (xs ++ zs)) (in_range low high x l u) (a.1 zs)))
    (choices_allowed n r (f x) (g x)))))
  where
    in_range : (low high x : ℕ) → low ≤ x → x ≤ high → within low high x ≡ true
    in_range low high x l u = grind (arith, nat_tests)

-- the parameters of a step made of at most four, and what stands behind them
pub four_of : (r : Rule) (xs : List ℕ) → length xs ≤ 4 → (zs : List ℕ) × (four (step_with r xs) ≡ xs ++ zs)
four_of r [] h = (0 ∷ 0 ∷ 0 ∷ 0 ∷ [], refl)
four_of r (a ∷ []) h = (0 ∷ 0 ∷ 0 ∷ [], refl)
four_of r (a ∷ b ∷ []) h = (0 ∷ 0 ∷ [], refl)
four_of r (a ∷ b ∷ c ∷ []) h = (0 ∷ [], refl)
four_of r (a ∷ b ∷ c ∷ d ∷ []) h = ([], refl)
four_of r (a ∷ b ∷ c ∷ d ∷ e ∷ xs) h = absurd (omega arith)

-- each candidate passes the test of candidates
pub candidates_are : (q : Query) → in_bounds q ≡ true → AllByRecursion (λ s. is_candidate q s ≡ true) (candidates q)
unfolding candidates is_candidate
candidates_are q b =
    each-flat_map Passes (λ r. map (step_with r) (choices (terms q r))) (serving q rules)
    (each-filtered (λ r. AllByRecursion Passes (map (step_with r) (choices (terms q r)))) (serves (kind_of q)) rules of_rule)
  where
    Passes : Step → Type 0
    Passes s = (serves (kind_of q) s.rule && allows (terms q s.rule) (four s)) ≡ true

    of_rule : (r : Rule) → serves (kind_of q) r ≡ true → AllByRecursion Passes (map (step_with r) (choices (terms q r)))
    of_rule r k =
        each-map Passes (step_with r) (choices (terms q r))
        (each-weaker (IsAllowed (title r).parameters (terms q r)) (λ xs. Passes (step_with r xs)) (choices (terms q r))
        (λ xs a. let f = four_of r xs (omega (arith, a.0, few_parameters r)) in
        and_from (serves (kind_of q) r) (allows (terms q r) (four (step_with r xs))) k (subst (λ ys. allows (terms q r) ys ≡ true) (sym f.1) (a.1 f.0)))
        (choices_allowed (title r).parameters (rank q) (terms q r) (grounded q b r)))

-- in bounds, and of a rank below r
abbrev pub IsBelow : ℕ → Query → Type 0
IsBelow r p = (in_bounds p ≡ true) × (rank p < r)

-- the premises at parameters that are allowed
premises_below : (n r : ℕ) (t : RuleTree) (xs : List ℕ) → IsGrounded n r t → allows t xs ≡ true → (length (premises_at t xs) ≤ PREMISES_MAX) × AllByRecursion (IsBelow r) (premises_at t xs)
unfolding allows premises_at
premises_below n r (when c asks ps) xs g h =
    let a = both c (list_all in_bounds ps) h in
    let b = each-passing in_bounds ps a.1 in
    let s = g a.0 b in
    (s.few, each-both (λ p. in_bounds p ≡ true) (λ p. rank p < r) ps b s.smaller)
premises_below zero r (from low to high take f) xs g h = absurd g
premises_below (suc n) r (from low to high take f) [] g h = absurd (cc)
premises_below (suc n) r (from low to high take f) (x ∷ xs) g h = premises_below n r (f x) xs (g x) (both (within low high x) (allows (f x) xs) h).1

module _ (q : Query) (s : Step) (b : in_bounds q ≡ true) (e : is_candidate q s ≡ true) where
  allowed : allows (terms q s.rule) (four s) ≡ true
  unfolding is_candidate
  allowed = (both (serves (kind_of q) s.rule) (allows (terms q s.rule) (four s)) e).1

  -- the premises of a candidate are few
  pub premises_few : length (premises q s) ≤ PREMISES_MAX
  unfolding premises
  premises_few = (premises_below (title s.rule).parameters (rank q) (terms q s.rule) (four s) (grounded q b s.rule) allowed).0

  -- and each is in bounds and of a smaller rank
  pub premises_fall : AllByRecursion (IsBelow (rank q)) (premises q s)
  unfolding premises
  premises_fall = (premises_below (title s.rule).parameters (rank q) (terms q s.rule) (four s) (grounded q b s.rule) allowed).1

-- so it is for each candidate
pub candidates_fall : (q : Query) → in_bounds q ≡ true → AllByRecursion (λ s. AllByRecursion (IsBelow (rank q)) (premises q s)) (candidates q)
candidates_fall q b =
    each-weaker (λ s. is_candidate q s ≡ true) (λ s. AllByRecursion (IsBelow (rank q)) (premises q s)) (candidates q) (λ s e. premises_fall q s b e) (candidates_are q b)
