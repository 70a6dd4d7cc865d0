-- Sums over the numbers below a bound, and counts as such sums.
use Rattle.std.proofs.Common.{Bool, List, [], add-one, ap, arith, false, inl, inr, refl, suc, sym, true, zero, ℕ, ◌*◌, ◌++◌, ◌+◌, ◌<◌, ◌==◌, ◌∙◌, ◌≡◌, ◌≢◌, ◌≤◌, ◌⊎◌}
use Rattle.counting.proofs.Booleans.{cases_eq, eq-eqb, eqb-true}
use Rattle.counting.specs.Sums.{join_below, one, sum_below}

pub sum_below-none : (f : ℕ → ℕ) → sum_below 0 f ≡ 0
unfolding sum_below
sum_below-none f = refl

pub sum_below-suc : (n : ℕ) (f : ℕ → ℕ) → sum_below (suc n) f ≡ sum_below n f + f n
unfolding sum_below
sum_below-suc n f = refl

-- two sums whose terms agree below the bound
pub sum_below-same : (n : ℕ) (f g : ℕ → ℕ) → ((i : ℕ) → i < n → f i ≡ g i) → sum_below n f ≡ sum_below n g
unfolding sum_below
sum_below-same zero f g h = refl
sum_below-same (suc n) f g h = omega (arith, sum_below-same n f g (λ i l. h i (omega arith)), h n (omega arith))

pub sum_below-zero : (n : ℕ) (f : ℕ → ℕ) → ((i : ℕ) → i < n → f i ≡ 0) → sum_below n f ≡ 0
unfolding sum_below
sum_below-zero zero f h = refl
sum_below-zero (suc n) f h = omega (arith, sum_below-zero n f (λ i l. h i (omega arith)), h n (omega arith))

-- terms that are no larger
pub sum_below-le : (n : ℕ) (f g : ℕ → ℕ) → ((i : ℕ) → i < n → f i ≤ g i) → sum_below n f ≤ sum_below n g
unfolding sum_below
sum_below-le zero f g h = omega arith
sum_below-le (suc n) f g h = omega (arith, sum_below-le n f g (λ i l. h i (omega arith)), h n (omega arith))

pub sum_below-add : (n : ℕ) (f g : ℕ → ℕ) → sum_below n (λ i. f i + g i) ≡ sum_below n f + sum_below n g
unfolding sum_below
sum_below-add zero f g = refl
sum_below-add (suc n) f g = omega (arith, sum_below-add n f g)

pub sum_below-mul : (n c : ℕ) (f : ℕ → ℕ) → sum_below n (λ i. c * f i) ≡ c * sum_below n f
unfolding sum_below
sum_below-mul zero c f = omega arith
sum_below-mul (suc n) c f = omega (arith, sum_below-mul n c f)

-- one term alone is not 0
pub sum_below-at : (n k : ℕ) (f : ℕ → ℕ) → k < n → ((i : ℕ) → i < n → i ≢ k → f i ≡ 0) → sum_below n f ≡ f k
unfolding sum_below
sum_below-at zero k f l h = omega arith
sum_below-at (suc n) k f l h = elim (cases_eq k n) [
  | inl e ↦ omega (arith, sum_below-zero n f (λ i m. h i (omega arith) (omega arith)), ap f e)
  | inr d ↦ omega (arith, sum_below-at n k f (omega arith) (λ i m ne. h i (omega arith) ne), h n (omega arith) (omega arith))
]

-- the order of two sums may be turned
pub sum_below-turn : (n m : ℕ) (f : ℕ → ℕ → ℕ) → sum_below n (λ i. sum_below m (λ j. f i j)) ≡ sum_below m (λ j. sum_below n (λ i. f i j))
unfolding sum_below
sum_below-turn zero m f = sym (sum_below-zero m (λ j. 0) (λ i l. refl))
sum_below-turn (suc n) m f = ap (λ s. s + sum_below m (λ j. f n j)) (sum_below-turn n m f) ∙ sym (sum_below-add m (λ j. sum_below n (λ i. f i j)) (λ j. f n j))

one_is : (b : Bool) → ((one b ≡ 1) × (b ≡ true)) ⊎ ((one b ≡ 0) × (b ≡ false))
unfolding one
one_is true = inl (refl, refl)
one_is false = inr (refl, refl)

pub one-most : (b : Bool) → one b ≤ 1
unfolding one
one-most true = omega arith
one-most false = omega arith

pub one-true : (b : Bool) → b ≡ true → one b ≡ 1
unfolding one
one-true true e = refl
one-true false e = cc

pub one-false : (b : Bool) → (b ≡ true → ⊥) → one b ≡ 0
unfolding one
one-false true e = absurd (e refl)
one-false false e = refl

-- a test with exactly one solution below n counts 1
pub count_one : (n k : ℕ) (p : ℕ → Bool) → k < n → p k ≡ true → ((i : ℕ) → i < n → p i ≡ true → i ≡ k) → sum_below n (λ i. one (p i)) ≡ 1
count_one n k p l e u = sum_below-at n k (λ i. one (p i)) l (λ i m ne. one-false (p i) (λ t. ne (u i m t))) ∙ one-true (p k) e

pub count_none : (n : ℕ) (p : ℕ → Bool) → ((i : ℕ) → i < n → p i ≡ true → ⊥) → sum_below n (λ i. one (p i)) ≡ 0
count_none n p none = sum_below-zero n (λ i. one (p i)) (λ i l. one-false (p i) (none i l))

-- the pairs x < y < n that pass a test
abbrev pub count_pairs : ℕ → (ℕ → ℕ → Bool) → ℕ
count_pairs n p = sum_below n (λ y. sum_below y (λ x. one (p x y)))

pub pairs_one : (n a b : ℕ) (p : ℕ → ℕ → Bool) → a < b → b < n → p a b ≡ true → ((x y : ℕ) → x < y → y < n → p x y ≡ true → (x ≡ a) × (y ≡ b)) → count_pairs n p ≡ 1
pairs_one n a b p l m e u = sum_below-at n b (λ y. sum_below y (λ x. one (p x y))) m (λ y k ne. count_none y (λ x. p x y) (λ x j t. ne (u x y j k t).1)) ∙ count_one b a (λ x. p x b) l e (λ x j t. (u x b j m t).0)

pub pairs_none : (n : ℕ) (p : ℕ → ℕ → Bool) → ((x y : ℕ) → x < y → y < n → p x y ≡ true → ⊥) → count_pairs n p ≡ 0
pairs_none n p none = sum_below-zero n (λ y. sum_below y (λ x. one (p x y))) (λ y k. count_none y (λ x. p x y) (λ x j. none x y j k))

pub sum_below-const : (n c : ℕ) → sum_below n (λ i. c) ≡ n * c
unfolding sum_below
sum_below-const zero c = omega arith
sum_below-const (suc n) c = omega (arith, sum_below-const n c)

-- exactly one number below n is x
pub count_equal : (n x : ℕ) → x < n → sum_below n (λ i. one (x == i)) ≡ 1
count_equal n x l = count_one n x (λ i. x == i) l (eq-eqb x x refl) (λ i m e. sym (eqb-true x i e))

-- a test on two numbers with exactly one solution
pub grid_one : (n m a b : ℕ) (p : ℕ → ℕ → Bool) → a < n → b < m → p a b ≡ true → ((x y : ℕ) → x < n → y < m → p x y ≡ true → (x ≡ a) × (y ≡ b)) → sum_below n (λ x. sum_below m (λ y. one (p x y))) ≡ 1
grid_one n m a b p l k e u = sum_below-at n a (λ x. sum_below m (λ y. one (p x y))) l (λ x i ne. count_none m (λ y. p x y) (λ y j t. ne (u x y i j t).0)) ∙ count_one m b (λ y. p a y) k e (λ y j t. (u a y l j t).1)

pub grid_none : (n m : ℕ) (p : ℕ → ℕ → Bool) → ((x y : ℕ) → x < n → y < m → p x y ≡ true → ⊥) → sum_below n (λ x. sum_below m (λ y. one (p x y))) ≡ 0
grid_none n m p none = sum_below-zero n (λ x. sum_below m (λ y. one (p x y))) (λ x i. count_none m (λ y. p x y) (λ y j. none x y i j))

-- a loop's step: one more list, and one more element
pub join_below_more : {X : Type 0} (n : ℕ) (f : ℕ → List X) → join_below (n + 1) f ≡ join_below n f ++ f n
unfolding join_below
join_below_more n f = rw add-one refl

pub join_below_none : {X : Type 0} (f : ℕ → List X) → join_below 0 f ≡ []
unfolding join_below
join_below_none f = refl
