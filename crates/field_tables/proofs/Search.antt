-- What the search words of `counting` say of the elements of a list.
use Rattle.std.proofs.Common.{◌≡◌, ◌≢◌, ℕ, Bool, true, false, List, [], ◌∷◌, ◌++◌, Some, refl, ap, subst, sym, ◌∙◌, ◌<◌, ◌+◌, suc, zero, arith, inl, inr, length, drop, drop-cons, get_or}
use Rattle.std.specs.Prelude.{nat_eq, ◌==◌}
use Rattle.counting.proofs.Booleans.{cases_eq, eq-eqb, eqb-true, ne_eqb}
use Rattle.counting.specs.Search.{first_in, each_passes, is_among}
use Rattle.counting.specs.Sums.{join_below, list_below}
use Rattle.design_base.specs.Fields.{order}
use Rattle.field_tables.specs.declared.polynomial.Polynomial.{Polynomial}
use Rattle.field_tables.specs.Tables.{found_in, modulus_in}

-- what each element passes, the first that passes another test passes too
pub first_in-each : {X : Type 0} (test each : X → Bool) (xs : List X) (x : X) → each_passes each xs ≡ true → first_in test xs ≡ Some x → (test x ≡ true) × (each x ≡ true)
unfolding first_in each_passes
first_in-each test each [] x all e = cc
first_in-each test each (y ∷ ys) x all e = at (test y) refl (each y) refl (first_in-each test each ys x) all e
  where
    at : (b : Bool) → test y ≡ b → (c : Bool) → each y ≡ c → (each_passes each ys ≡ true → first_in test ys ≡ Some x → (test x ≡ true) × (each x ≡ true)) →
        elim c [ true ↦ each_passes each ys | false ↦ false ] ≡ true → elim b [ true ↦ Some y | false ↦ first_in test ys ] ≡ Some x → (test x ≡ true) × (each x ≡ true)
    at b hb false hc rest all e = cc
    at true hb true hc rest all e = let same : y ≡ x = cc in (ap test (sym same) ∙ hb, ap each (sym same) ∙ hc)
    at false hb true hc rest all e = rest all e

-- the first of the polynomials that begin with one whose order is known
pub found_here : (q : ℕ) (f : Polynomial) (fs : List Polynomial) → order (modulus_in f) ≡ q → found_in q (f ∷ fs) ≡ Some (modulus_in f)
unfolding first_in
found_here q f fs e = ap (λ b. elim b [ true ↦ Some (modulus_in f) | false ↦ found_in q fs ]) (eq-eqb (order (modulus_in f)) q e)

pub found_later : (q : ℕ) (f : Polynomial) (fs : List Polynomial) → order (modulus_in f) ≢ q → found_in q (f ∷ fs) ≡ found_in q fs
unfolding first_in
found_later q f fs e = ap (λ b. elim b [ true ↦ Some (modulus_in f) | false ↦ found_in q fs ]) (ne_eqb (order (modulus_in f)) q e)

-- the first element passes, and the rest
pub each_first : {X : Type 0} (test : X → Bool) (x : X) (xs : List X) → each_passes test (x ∷ xs) ≡ true → (test x ≡ true) × (each_passes test xs ≡ true)
unfolding each_passes
each_first test x xs h = by (test x) refl h
  where
    by : (b : Bool) → test x ≡ b → elim b [ true ↦ each_passes test xs | false ↦ false ] ≡ true → (test x ≡ true) × (each_passes test xs ≡ true)
    by true e h = (e, h)
    by false e h = cc

-- the elements of two lists
each_append : {X : Type 0} (test : X → Bool) (xs ys : List X) → each_passes test (xs ++ ys) ≡ true → (each_passes test xs ≡ true) × (each_passes test ys ≡ true)
unfolding each_passes
each_append test [] ys e = (refl, e)
each_append test (x ∷ xs) ys e =
    let h = each_first test x (xs ++ ys) e in
    let t = each_append test xs ys h.1 in
    (ap (λ b. elim b [ true ↦ each_passes test xs | false ↦ false ]) h.0 ∙ t.0, t.1)

-- the element at a place
pub passes_at : {X : Type 0} (test : X → Bool) (xs : List X) → each_passes test xs ≡ true → (i : ℕ) (d : X) → i < length xs → test (get_or xs i d) ≡ true
passes_at test [] e i d l = absurd (omega arith)
passes_at test (x ∷ xs) e zero d l = (each_first test x xs e).0
passes_at test (x ∷ xs) e (suc i) d l = passes_at test xs (each_first test x xs e).1 i d (omega arith)

-- those of a list f 0, f 1, ..
pub passes_below : {X : Type 0} (test : X → Bool) (n : ℕ) (f : ℕ → X) → each_passes test (list_below n f) ≡ true → (i : ℕ) → i < n → test (f i) ≡ true
unfolding join_below
passes_below test zero f e i l = absurd (omega arith)
passes_below test (suc n) f e i l =
    let h = each_append test (list_below n f) (f n ∷ []) e in
    elim (cases_eq i n) [
      | inl s ↦ subst (λ k. test (f k) ≡ true) (sym s) (each_first test (f n) [] h.1).0
      | inr d ↦ passes_below test n f h.0 i (omega arith)
    ]

-- a number that is among those of a list
pub passes_among : (test : ℕ → Bool) (x : ℕ) (xs : List ℕ) → each_passes test xs ≡ true → is_among x xs ≡ true → test x ≡ true
unfolding is_among
passes_among test x [] e h = absurd (let f : false ≡ true = h in cc)
passes_among test x (y ∷ ys) e h = by (nat_eq x y) refl (passes_among test x ys (each_first test y ys e).1) h
  where
    by : (b : Bool) → nat_eq x y ≡ b → (is_among x ys ≡ true → test x ≡ true) → elim b [ true ↦ true | false ↦ is_among x ys ] ≡ true → test x ≡ true
    by true f rest h = subst (λ z. test z ≡ true) (sym (eqb-true x y f)) (each_first test y ys e).0
    by false f rest h = rest h

-- a step of the search: the polynomials from place k on
module _ (q k : ℕ) (fs : List Polynomial) (d : Polynomial) (inside : k < length fs)
    (left : found_in q (drop k fs) ≡ found_in q fs) (orders : each_passes (λ f. f.order == order (modulus_in f)) (drop k fs) ≡ true) where
  here : Polynomial
  here = get_or fs k d

  split : drop k fs ≡ here ∷ drop (suc k) fs
  unfolding here
  split = drop-cons fs k d inside

  ends : (here.order ≡ order (modulus_in here)) × (each_passes (λ f. f.order == order (modulus_in f)) (drop (suc k) fs) ≡ true)
  ends =
      let both = each_first (λ f. f.order == order (modulus_in f)) here (drop (suc k) fs) (ap (each_passes (λ f. f.order == order (modulus_in f))) (sym split) ∙ orders) in
      (eqb-true here.order (order (modulus_in here)) both.0, both.1)

  pub found_at : (get_or fs k d).order ≡ q → ((get_or fs k d).order ≡ q) × (found_in (get_or fs k d).order fs ≡ Some (modulus_in (get_or fs k d)))
  unfolding here
  found_at e = (e, ap (λ t. found_in t fs) e ∙ sym left ∙ ap (found_in q) split ∙ found_here q here (drop (suc k) fs) (sym ends.0 ∙ e))

  pub found_on : (get_or fs k d).order ≢ q → (found_in q (drop (k + 1) fs) ≡ found_in q fs) × (each_passes (λ f. f.order == order (modulus_in f)) (drop (k + 1) fs) ≡ true)
  unfolding here
  found_on ne =
      let next : suc k ≡ k + 1 = omega arith in (
        ap (λ t. found_in q (drop t fs)) (sym next) ∙ sym (found_later q here (drop (suc k) fs) (λ e. ne (ends.0 ∙ e))) ∙ ap (found_in q) (sym split) ∙ left,
        ap (λ t. each_passes (λ f. f.order == order (modulus_in f)) (drop t fs)) (sym next) ∙ ends.1,
      )
