-- Terms with the sum and the sum of squares of equal terms are equal: the squares of what they differ have the sum 0.
use Rattle.std.proofs.Common.{List, ap, arith, get_or, inl, inr, length, suc, sym, ℕ, ◌*◌, ◌+◌, ◌-◌, ◌≡◌, ◌≤◌}
use Rattle.std.proofs.Math.Nat.{le_dest}
use Rattle.std.proofs.lemmas.List.Sums.{get_or-le-sum_by}
use Rattle.std.specs.List.{sum_by}
use Rattle.std.specs.Prelude.{All}
use Rattle.counting.proofs.Booleans.{cases_lt}
use Rattle.counting.proofs.Lists.{each_all, sum_by-add, sum_by-mul, sum_by-mul-one, sum_by-same}

-- the square of what two numbers differ
abbrev gap : ℕ → ℕ → ℕ
gap x y = (x - y) * (x - y) + (y - x) * (y - x)

gap_squares : (x y : ℕ) → gap x y + 2 * y * x ≡ x * x + y * y
gap_squares x y = elim (cases_lt x y) [
  | inl l ↦
      let p = le_dest (let h : x ≤ y = omega arith in h) in
      let e : y - x ≡ p.0 = omega (arith, p.1) in
      let f : x - y ≡ 0 = omega arith in
      omega (arith, ap (λ t. t * t) e, ap (λ t. t * t) f, ap (λ t. t * t) (sym p.1), ap (λ t. 2 * t * x) (sym p.1))
  | inr l ↦
      let p = le_dest l in
      let e : x - y ≡ p.0 = omega (arith, p.1) in
      let f : y - x ≡ 0 = omega arith in
      omega (arith, ap (λ t. t * t) e, ap (λ t. t * t) f, ap (λ t. t * t) (sym p.1), ap (λ t. 2 * y * t) (sym p.1))
]

no_gap : (x y : ℕ) → gap x y ≡ 0 → x ≡ y
no_gap x y e = elim (cases_lt x y) [
  | inl l ↦ let p = le_dest l in let f : y - x ≡ suc p.0 = omega (arith, p.1) in absurd (omega (arith, ap (λ t. t * t) f))
  | inr l ↦ elim (cases_lt y x) [
    | inl m ↦ let p = le_dest m in let f : x - y ≡ suc p.0 = omega (arith, p.1) in absurd (omega (arith, ap (λ t. t * t) f))
    | inr m ↦ omega arith
  ]
]

module _ {X : Type 0} (f : X → ℕ) (c : ℕ) (xs : List X) where
  no_gaps : sum_by f xs ≡ c * length xs → sum_by (λ x. f x * f x) xs ≡ c * c * length xs → sum_by (λ x. gap (f x) c) xs ≡ 0
  no_gaps sum squares = omega (
    arith,
    sum_by-add (λ x. gap (f x) c) (λ x. 2 * c * f x) xs,
    sum_by-same (λ x. gap (f x) c + 2 * c * f x) (λ x. f x * f x + c * c) xs (each_all _ (λ x. gap_squares (f x) c) xs),
    sum_by-add (λ x. f x * f x) (λ x. c * c) xs,
    sum_by-mul (2 * c) f xs,
    sum_by-mul-one (c * c) xs,
    squares,
    ap (λ n. 2 * c * n) sum,
  )

  pub each_equal : sum_by f xs ≡ c * length xs → sum_by (λ x. f x * f x) xs ≡ c * c * length xs → All (λ x. f x ≡ c) xs
  each_equal sum squares i d l = no_gap (f (get_or xs i d)) c (omega (arith, get_or-le-sum_by (λ x. gap (f x) c) xs i d l, no_gaps sum squares))
