-- The square of a sum and the sum of the squares.
use Rattle.std.proofs.Common.{List, [], ap, arith, inl, inr, length, subst, suc, ℕ, ◌*◌, ◌+◌, ◌∷◌, ◌≡◌, ◌≤◌}
use Rattle.std.proofs.Math.Nat.{le_dest}
use Rattle.counting.proofs.Booleans.{cases_lt}
use Rattle.std.proofs.lemmas.List.Sums.{sum_by-cons}
use Rattle.std.specs.List.{sum_by}

-- 2xy is at most the sum of the squares, where y is x + d
twice_above : (x d : ℕ) → 2 * (x * (x + d)) ≤ x * x + (x + d) * (x + d)
twice_above x d = omega arith

twice_ordered : (x y : ℕ) → x ≤ y → 2 * (x * y) ≤ x * x + y * y
twice_ordered x y h = subst (λ t. 2 * (x * t) ≤ x * x + t * t) (le_dest h).1 (twice_above x (le_dest h).0)

pub twice_product : (x y : ℕ) → 2 * (x * y) ≤ x * x + y * y
twice_product x y = elim (cases_lt x y) [ inl h ↦ twice_ordered x y (omega arith) | inr h ↦ omega (arith, twice_ordered y x h) ]

module _ {X : Type 0} (f : X → ℕ) where
  twice_products : (a : ℕ) (xs : List X) → 2 * (a * sum_by f xs) ≤ length xs * (a * a) + sum_by (λ x. f x * f x) xs
  twice_products a [] = omega arith
  twice_products a (x ∷ xs) = omega (arith, ap (λ t. a * t) (sum_by-cons f x xs), sum_by-cons (λ x. f x * f x) x xs, twice_product a (f x), twice_products a xs)

  -- the square of a sum is at most the number of terms times the sum of the squares
  pub square_of_sum : (xs : List X) → sum_by f xs * sum_by f xs ≤ length xs * sum_by (λ x. f x * f x) xs
  square_of_sum [] = omega arith
  square_of_sum (x ∷ xs) = squared (f x) (sum_by f xs) (length xs) (sum_by (λ x. f x * f x) xs) (sum_by f (x ∷ xs)) (sum_by (λ x. f x * f x) (x ∷ xs)) (sum_by-cons f x xs) (sum_by-cons (λ x. f x * f x) x xs) (twice_products (f x) xs) (square_of_sum xs)
    where
      squared : (a s n q t r : ℕ) → t ≡ a + s → r ≡ a * a + q → 2 * (a * s) ≤ n * (a * a) + q → s * s ≤ n * q → t * t ≤ suc n * r
      squared a s n q t r e g h k = omega (arith, ap (λ z. z * t) e, ap (λ z. a * z) e, ap (λ z. s * z) e, ap (λ z. suc n * z) g, h, k)
