-- Lists in which exactly one place passes a test, and filters.
use Rattle.std.proofs.Common.{Bool, List, [], ap, ap₂, arith, false, get_or, inl, inr, length, not, refl, suc, sym, true, zero, ℕ, ◌*◌, ◌+◌, ◌<◌, ◌∙◌, ◌∷◌, ◌≡◌, ◌≢◌, ◌≤◌}
use Rattle.counting.proofs.Booleans.{cases_lt, cases_order, cond_both, false≢true}
use Rattle.std.proofs.lemmas.List.Sums.{fails_before_first, get_or-le-sum_by, sum_by-cons}
use Rattle.std.specs.List.{position_or_len, sum_by}
use Rattle.std.specs.Prelude.{filter}
use Rattle.counting.proofs.Counts.{one-false, one-true}
use Rattle.counting.proofs.Lists.{each_all, sum_by-add, sum_by-same}
use Rattle.counting.specs.Sums.{one}

module _ {X : Type 0} (p : X → Bool) where
  pub filter_sum : (f : X → ℕ) (xs : List X) → sum_by f (filter p xs) ≡ sum_by (λ x. one (p x) * f x) xs
  unfolding one
  filter_sum f [] = refl
  filter_sum f (x ∷ xs) = cond_both (p x) _ _ (λ ys. sum_by f ys ≡ sum_by (λ x. one (p x) * f x) (x ∷ xs))
      (λ e. omega (arith, sum_by-cons f x (filter p xs), filter_sum f xs, sum_by-cons (λ x. one (p x) * f x) x xs, ap (λ n. n * f x) (one-true (p x) e)))
      (λ e. omega (arith, filter_sum f xs, sum_by-cons (λ x. one (p x) * f x) x xs, ap (λ n. n * f x) (one-false (p x) (λ g. false≢true (sym e ∙ g)))))

  pub two_places : (xs : List X) (i j : ℕ) (d : X) → i < j → j < length xs → p (get_or xs i d) ≡ true → p (get_or xs j d) ≡ true → 2 ≤ sum_by (λ x. one (p x)) xs
  two_places [] i j d l m e f = absurd (omega arith)
  two_places (x ∷ xs) i zero d l m e f = absurd (omega arith)
  two_places (x ∷ xs) zero (suc j) d l m e f = omega (arith, sum_by-cons (λ x. one (p x)) x xs, one-true (p x) e, get_or-le-sum_by (λ x. one (p x)) xs j d (omega arith), one-true (p (get_or xs j d)) f)
  two_places (x ∷ xs) (suc i) (suc j) d l m e f = omega (arith, sum_by-cons (λ x. one (p x)) x xs, two_places xs i j d (omega arith) (omega arith) e f)

  pub one_place : (xs : List X) (i j : ℕ) (d : X) → sum_by (λ x. one (p x)) xs ≡ 1 → i < length xs → j < length xs → p (get_or xs i d) ≡ true → p (get_or xs j d) ≡ true → i ≡ j
  one_place xs i j d one l m e f = elim (cases_order i j) [
    | inl s ↦ s
    | inr (inl w) ↦ absurd (omega (arith, two_places xs i j d w m e f))
    | inr (inr w) ↦ absurd (omega (arith, two_places xs j i d w l f e))
  ]

  pub some_place : (xs : List X) → sum_by (λ x. one (p x)) xs ≡ 1 → position_or_len p xs < length xs
  some_place xs e = elim (cases_lt (position_or_len p xs) (length xs)) [
    | inl l ↦ l
    | inr l ↦ absurd (omega (arith, none xs (λ k d h. fails_before_first p xs k d (omega arith))))
  ]
    where
      none : (xs : List X) → ((k : ℕ) (d : X) → k < length xs → p (get_or xs k d) ≡ false) → sum_by (λ x. one (p x)) xs ≡ 0
      none [] h = refl
      none (x ∷ xs) h = omega (arith, sum_by-cons (λ x. one (p x)) x xs, one-false (p x) (λ g. false≢true (sym (h 0 x (omega arith)) ∙ g)), none xs (λ k d l. h (suc k) d (omega arith)))

  -- a sum whose terms are 0 but at the one place
  pub sum_at : (f : X → ℕ) (xs : List X) (i : ℕ) (d : X) → i < length xs → ((k : ℕ) → k < length xs → k ≢ i → f (get_or xs k d) ≡ 0) → sum_by f xs ≡ f (get_or xs i d)
  sum_at f [] i d l h = absurd (omega arith)
  sum_at f (x ∷ xs) zero d l h = omega (arith, sum_by-cons f x xs, zeros xs (λ k m. h (suc k) (omega arith) (omega arith)))
    where
      zeros : (xs : List X) → ((k : ℕ) → k < length xs → f (get_or xs k d) ≡ 0) → sum_by f xs ≡ 0
      zeros [] h = refl
      zeros (x ∷ xs) h = omega (arith, sum_by-cons f x xs, h 0 (omega arith), zeros xs (λ k m. h (suc k) (omega arith)))
  sum_at f (x ∷ xs) (suc i) d l h = omega (arith, sum_by-cons f x xs, h 0 (omega arith) (omega arith), sum_at f xs i d (omega arith) (λ k m ne. h (suc k) (omega arith) (omega arith)))

parts : (t : Bool) (n : ℕ) → n ≡ one t * n + one (not t) * n
unfolding one
parts true n = omega arith
parts false n = omega arith

pub sum_split : {X : Type 0} (p : X → Bool) (f : X → ℕ) (xs : List X) → sum_by f xs ≡ sum_by f (filter p xs) + sum_by f (filter (λ x. not (p x)) xs)
sum_split p f xs = sum_by-same f (λ x. one (p x) * f x + one (not (p x)) * f x) xs (each_all _ (λ x. parts (p x) (f x)) xs)
    ∙ sum_by-add (λ x. one (p x) * f x) (λ x. one (not (p x)) * f x) xs
    ∙ ap₂ (λ m n. m + n) (sym (filter_sum p f xs)) (sym (filter_sum (λ x. not (p x)) f xs))
