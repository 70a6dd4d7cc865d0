-- Sums all of whose terms but one are known, and sums over the places of groups.
use Rattle.std.proofs.Common.{List, add-suc, ap, arith, inl, inr, length, suc, zero, ℕ, ◌*◌, ◌+◌, ◌<◌, ◌==◌, ◌∙◌, ◌≡◌, ◌≢◌}
use Rattle.counting.proofs.Booleans.{cases_eq, eq-eqb, eqb-true}
use Rattle.std.specs.List.{sum_by}
use Rattle.std.specs.Prelude.{All}
use Rattle.counting.proofs.Counts.{one-false, one-true, sum_below-const, sum_below-same}
use Rattle.counting.proofs.Lists.{sum_by-add, sum_by-agree, sum_by-mul, sum_by-mul-one}
use Rattle.counting.specs.Sums.{one, sum_below}

-- two sums whose terms agree but for that at k
pub sum_below-but : (n k : ℕ) (f g : ℕ → ℕ) → k < n → ((i : ℕ) → i < n → i ≢ k → f i ≡ g i) → sum_below n f + g k ≡ sum_below n g + f k
unfolding sum_below
sum_below-but zero k f g l h = absurd (omega arith)
sum_below-but (suc n) k f g l h = elim (cases_eq k n) [
  | inl e ↦ omega (arith, sum_below-same n f g (λ i m. h i (omega arith) (omega arith)), ap f e, ap g e)
  | inr d ↦ omega (arith, sum_below-but n k f g (omega arith) (λ i m ne. h i (omega arith) ne), h n (omega arith) (omega arith))
]

-- all terms but that at k are c
pub sum_below-but_const : (n k c : ℕ) (f : ℕ → ℕ) → k < n → ((i : ℕ) → i < n → i ≢ k → f i ≡ c) → sum_below n f + c ≡ f k + n * c
sum_below-but_const n k c f l h = omega (arith, sum_below-but n k f (λ i. c) l h, sum_below-const n c)

-- a list in which x stands once, where all terms but that of x are c
pub sum_by-but_const : (P : ℕ → Type 0) (x c : ℕ) (f : ℕ → ℕ) (xs : List ℕ) → All P xs → sum_by (λ y. one (y == x)) xs ≡ 1 → ((y : ℕ) → P y → y ≢ x → f y ≡ c) → sum_by f xs + c ≡ f x + length xs * c
sum_by-but_const P x c f xs all once h = omega (
  arith,
  sum_by-agree P (λ y. f y + c * one (y == x)) (λ y. c + f x * one (y == x)) xs all term,
  sum_by-add f (λ y. c * one (y == x)) xs,
  sum_by-mul c (λ y. one (y == x)) xs,
  sum_by-add (λ y. c) (λ y. f x * one (y == x)) xs,
  sum_by-mul (f x) (λ y. one (y == x)) xs,
  sum_by-mul-one c xs,
  ap (λ n. c * n) once,
  ap (λ n. f x * n) once,
)
  where
    term : (y : ℕ) → P y → f y + c * one (y == x) ≡ c + f x * one (y == x)
    term y p = elim (cases_eq y x) [
      | inl e ↦ (let t = one-true (y == x) (eq-eqb y x e) in omega (arith, ap f e, ap (λ n. c * n) t, ap (λ n. f x * n) t))
      | inr ne ↦ (let t = one-false (y == x) (λ q. ne (eqb-true y x q)) in omega (arith, h y p ne, ap (λ n. c * n) t, ap (λ n. f x * n) t))
    ]

pub sum_below-plus : (m n : ℕ) (f : ℕ → ℕ) → sum_below (m + n) f ≡ sum_below m f + sum_below n (λ i. f (m + i))
unfolding sum_below
sum_below-plus m zero f = ap (λ t. sum_below t f) (let e : m + 0 ≡ m = omega arith in e) ∙ omega arith
sum_below-plus m (suc n) f = ap (λ t. sum_below t f) (add-suc m n) ∙ omega (arith, sum_below-plus m n f)

-- a sum over the numbers below u * n, n at a time
pub sum_below-groups : (u n : ℕ) (f : ℕ → ℕ) → sum_below (u * n) f ≡ sum_below u (λ c. sum_below n (λ a. f (c * n + a)))
unfolding sum_below
sum_below-groups zero n f = ap (λ t. sum_below t f) (let e : 0 * n ≡ 0 = omega arith in e)
sum_below-groups (suc u) n f = ap (λ t. sum_below t f) (let e : suc u * n ≡ u * n + n = omega arith in e) ∙ omega (arith, sum_below-plus (u * n) n f, sum_below-groups u n f)
