-- In a transversal design some block is disjoint from the first one.
use Rattle.std.proofs.Common.{List, [], ap, arith, get_or, inl, inr, length, refl, suc, sym, zero, ℕ, ◌*◌, ◌+◌, ◌<◌, ◌==◌, ◌∙◌, ◌∷◌, ◌≡◌, ◌≢◌, ◌≤◌}
use Rattle.std.proofs.Math.Nat.{mul-le-mul_left}
use Rattle.counting.proofs.Booleans.{cases_eq, cases_lt, eq-eqb, eqb-false, eqb-true}
use Rattle.std.proofs.lemmas.List.Sums.{fails_before_first, passes_at_first, sum_by-cons}
use Rattle.std.specs.List.{position_or_len, sum_by}
use Rattle.counting.proofs.Counts.{one-true}
use Rattle.counting.specs.Sums.{one, sum_below}
use Rattle.criteria.proofs.Bound.{in_all_columns, of_the_first, shared_columns}
use Rattle.design_base.specs.Arrays.{IsOa}
use Rattle.wilson.specs.Holes.{agreements, first_apart}

agreements_shared : (k : ℕ) (f r : List ℕ) → agreements k f r ≡ shared_columns k f r
unfolding agreements shared_columns
agreements_shared k f r = refl

-- ---- rows that agree in no column
zero_each : (n : ℕ) (f : ℕ → ℕ) → sum_below n f ≡ 0 → (i : ℕ) → i < n → f i ≡ 0
unfolding sum_below
zero_each zero f e i l = absurd (omega arith)
zero_each (suc n) f e i l = elim (cases_eq i n) [
  | inl s ↦ ap f s ∙ omega arith
  | inr ne ↦ zero_each n f (omega arith) i (omega arith)
]

pub apart_from_agreements : (k : ℕ) (f r : List ℕ) → agreements k f r ≡ 0 → (j : ℕ) → j < k → get_or f j 0 ≢ get_or r j 0
unfolding agreements
apart_from_agreements k f r none j l same = omega (arith, zero_each k (λ j. one (get_or r j 0 == get_or f j 0)) none j l, one-true _ (eq-eqb (get_or r j 0) (get_or f j 0) (sym same)))

-- ---- why there is one: the rows agree with the first one in k * n places, k of which are its own
at_least_one : {X : Type 0} (f : X → ℕ) (xs : List X) → ((i : ℕ) (d : X) → i < length xs → 0 < f (get_or xs i d)) → length xs ≤ sum_by f xs
at_least_one f [] h = omega arith
at_least_one f (x ∷ xs) h = omega (arith, sum_by-cons f x xs, h 0 x (omega arith), at_least_one f xs (λ i d l. h (suc i) d (omega arith)))

too_few : (k n s : ℕ) → 2 ≤ n → k ≤ n → k + s ≡ k * n → n * n ≤ s + 1 → ⊥
too_few k (suc (suc n)) s two le e h = omega (arith, mul-le-mul_left (n + 1) le)
too_few k (suc zero) s two le e h = omega arith
too_few k zero s two le e h = omega arith

all_agreements : (k n : ℕ) (f : List ℕ) (R : List (List ℕ)) → IsOa (f ∷ R) k n → 2 ≤ k → sum_by (agreements k f) (f ∷ R) ≡ k * n
unfolding agreements shared_columns
all_agreements k n f R oa two = in_all_columns k n f R oa two

agree_nowhere : (k : ℕ) (R : List (List ℕ)) → first_apart k R < length R → agreements k (get_or R 0 []) (get_or R (first_apart k R) []) ≡ 0
unfolding first_apart
agree_nowhere k R l = eqb-true (agreements k (get_or R 0 []) (get_or R (first_apart k R) [])) 0 (passes_at_first (λ r. agreements k (get_or R 0 []) r == 0) R [] l)

-- in an array of order n >= 2 with k <= n columns some row differs from the first one in every column
module _ (k n : ℕ) (two : 2 ≤ k) (big : 2 ≤ n) (most : k ≤ n) where
  pub first_apart-below : (R : List (List ℕ)) → IsOa R k n → first_apart k R < length R
  unfolding first_apart
  first_apart-below [] oa = absurd (omega (arith, oa.count, mul-le-mul_left n big))
  first_apart-below (f ∷ R) oa = elim (cases_lt (position_or_len (λ r. agreements k f r == 0) (f ∷ R)) (length (f ∷ R))) [
    | inl l ↦ l
    | inr l ↦ absurd (too_few k n (sum_by (agreements k f) R) big most
        (omega (arith, in_all, sum_by-cons (agreements k f) f R, agreements_shared k f f, of_the_first k n f R oa two))
        (omega (arith, oa.count, at_least_one (agreements k f) R (λ i d h. omega (arith, eqb-false (agreements k f (get_or R i d)) 0 (fails_before_first (λ r. agreements k f r == 0) (f ∷ R) (suc i) d (omega arith)))))))
  ]
    where
      in_all : sum_by (agreements k f) (f ∷ R) ≡ k * n
      in_all = all_agreements k n f R oa two

  pub first_apart-differs : (R : List (List ℕ)) → IsOa R k n → (j : ℕ) → j < k → get_or (get_or R 0 []) j 0 ≢ get_or (get_or R (first_apart k R) []) j 0
  first_apart-differs R oa = apart_from_agreements k (get_or R 0 []) (get_or R (first_apart k R) []) (agree_nowhere k R (first_apart-below R oa))
