-- Searches for the first element that passes a test.
use Rattle.std.proofs.Common.{Bool, List, None, Option, Some, [], ap, arith, cond, false, inl, inr, length, refl, suc, sym, true, zero, ℕ, ◌++◌, ◌<◌, ◌∙◌, ◌∷◌, ◌≡◌}
use Rattle.counting.proofs.Booleans.{cases_eq, cases_lt, false≢true, le-ltb, ltb-false}
use Rattle.std.proofs.lemmas.List.Sums.{fails_before_first, passes_at_first}
use Rattle.std.specs.List.{position_or_len}
use Rattle.std.specs.Prelude.{All, nat_lt, position}
use Rattle.counting.specs.Search.{first_in}
use Rattle.counting.specs.Sums.{join_below}

-- what is found, or else what is found further on
or_else : {X : Type 0} → Option X → Option X → Option X
or_else (Some x) o = Some x
or_else None o = o

module _ {X : Type 0} (test : X → Bool) where
  first_in-append : (xs ys : List X) → first_in test (xs ++ ys) ≡ or_else (first_in test xs) (first_in test ys)
  unfolding first_in or_else
  first_in-append [] ys = refl
  first_in-append (x ∷ xs) ys = by_test (test x) (first_in-append xs ys)
    where
      by_test : (t : Bool) → first_in test (xs ++ ys) ≡ or_else (first_in test xs) (first_in test ys)
          → elim t [ true ↦ Some x | false ↦ first_in test (xs ++ ys) ] ≡ or_else (elim t [ true ↦ Some x | false ↦ first_in test xs ]) (first_in test ys)
      by_test true e = refl
      by_test false e = e

  pub found_single : (x : X) → test x ≡ true → first_in test (x ∷ []) ≡ Some x
  unfolding first_in
  found_single x e = rw (e, first_in) refl

  pub none_single : (x : X) → test x ≡ false → first_in test (x ∷ []) ≡ None
  unfolding first_in
  none_single x e = rw (e, first_in) refl

  pub single_none : (x : X) → first_in test (x ∷ []) ≡ None → test x ≡ false
  unfolding first_in
  single_none x e = by_test (test x) e
    where
      by_test : (t : Bool) → ◌≡◌ {A = Option X} (elim t [ true ↦ Some x | false ↦ None ]) None → t ≡ false
      by_test true e = cc
      by_test false e = refl

  pub none_below : (n : ℕ) (f : ℕ → List X) → ((i : ℕ) → i < n → first_in test (f i) ≡ None) → first_in test (join_below n f) ≡ None
  unfolding join_below first_in or_else
  none_below zero f h = refl
  none_below (suc n) f h = rw (first_in-append (join_below n f) (f n), none_below n f (λ i l. h i (omega arith)), h n (omega arith)) refl

  -- the first of the joined lists in which something is found
  pub found_below : (n i : ℕ) (f : ℕ → List X) (x : X) → i < n → ((j : ℕ) → j < i → first_in test (f j) ≡ None) → first_in test (f i) ≡ Some x → first_in test (join_below n f) ≡ Some x
  unfolding join_below or_else
  found_below zero i f x l h e = absurd (omega arith)
  found_below (suc n) i f x l h e = elim (cases_eq i n) [
    | inl s ↦ rw (first_in-append (join_below n f) (f n), none_below n f (λ j m. h j (omega arith))) (ap (λ k. first_in test (f k)) (sym s) ∙ e)
    | inr d ↦ rw (first_in-append (join_below n f) (f n), found_below n i f x (omega arith) h e) refl
  ]

  pub below_none : (n : ℕ) (f : ℕ → List X) → first_in test (join_below n f) ≡ None → (i : ℕ) → i < n → first_in test (f i) ≡ None
  unfolding join_below or_else
  below_none zero f e i l = absurd (omega arith)
  below_none (suc n) f e i l = let r = parts (first_in test (join_below n f)) (first_in test (f n)) (sym (first_in-append (join_below n f) (f n)) ∙ e) in elim (cases_eq i n) [
    | inl s ↦ ap (λ k. first_in test (f k)) s ∙ r.1
    | inr d ↦ below_none n f r.0 i (omega arith)
  ]
    where
      parts : (a b : Option X) → or_else a b ≡ None → (a ≡ None) × (b ≡ None)
      parts (Some x) b e = cc
      parts None b e = (refl, e)

  -- nothing is found exactly where each element fails
  pub position_none : (xs : List X) → position test xs ≡ None → All (λ x. test x ≡ false) xs
  position_none xs e k d l = fails_before_first test xs k d (omega (arith, ltb-false (position_or_len test xs) (length xs) (by_test (nat_lt (position_or_len test xs) (length xs)) e)))
    where
      by_test : (t : Bool) → ◌≡◌ {A = Option ℕ} (cond t (Some (position_or_len test xs)) None) None → t ≡ false
      by_test true e = cc
      by_test false e = refl

  pub none_position : (xs : List X) (d : X) → All (λ x. test x ≡ false) xs → position test xs ≡ None
  none_position xs d h = elim (cases_lt (position_or_len test xs) (length xs)) [
    | inl l ↦ absurd (false≢true (sym (h (position_or_len test xs) d l) ∙ passes_at_first test xs d l))
    | inr l ↦ rw (le-ltb (position_or_len test xs) (length xs) l) refl
  ]
