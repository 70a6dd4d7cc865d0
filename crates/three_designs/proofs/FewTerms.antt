-- Sums of which few terms are not 0.
use Rattle.std.proofs.Common.{arith, inl, inr, suc, zero, ℕ, ◌*◌, ◌<◌, ◌≡◌, ◌≤◌}
use Rattle.counting.proofs.Booleans.{cases_lt}
use Rattle.counting.proofs.Counts.{sum_below-const, sum_below-le, sum_below-zero}
use Rattle.counting.specs.Sums.{sum_below}

-- terms of at most c each
pub sum_below-most : (n c : ℕ) (f : ℕ → ℕ) → ((i : ℕ) → i < n → f i ≤ c) → sum_below n f ≤ n * c
sum_below-most n c f small = omega (arith, sum_below-le n f (λ i. c) small, sum_below-const n c)

-- a sum that is not 0 has a term that is not
pub sum_below-some : (n : ℕ) (f : ℕ → ℕ) → 0 < sum_below n f → (i : ℕ) × (i < n) × (0 < f i)
unfolding sum_below
sum_below-some zero f some = absurd (omega arith)
sum_below-some (suc n) f some = elim (cases_lt 0 (f n)) [
  | inl l ↦ (n, omega arith, l)
  | inr l ↦ let r = sum_below-some n f (omega arith) in (r.0, omega arith, r.2)
]

-- at most one term is not 0
pub sum_below-unique : (n c : ℕ) (f : ℕ → ℕ) → ((i : ℕ) → i < n → f i ≤ c) → ((i j : ℕ) → i < n → j < n → 0 < f i → 0 < f j → i ≡ j) → sum_below n f ≤ c
unfolding sum_below
sum_below-unique zero c f small unique = omega arith
sum_below-unique (suc n) c f small unique = elim (cases_lt 0 (f n)) [
  | inl l ↦ omega (arith, small n (omega arith), sum_below-zero n f (λ i m. none i m l))
  | inr l ↦ omega (arith, sum_below-unique n c f (λ i m. small i (omega arith)) (λ i j m k. unique i j (omega arith) (omega arith)))
]
  where
    none : (i : ℕ) → i < n → 0 < f n → f i ≡ 0
    none i m l = elim (cases_lt 0 (f i)) [ inl k ↦ absurd (let e : i ≡ n = unique i n (omega arith) (omega arith) k l in omega arith) | inr k ↦ omega arith ]
