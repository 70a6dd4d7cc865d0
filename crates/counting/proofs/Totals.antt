-- Sums over the numbers below a bound: over lists, by places, over renamed numbers; terms that a total tells.
use Rattle.std.proofs.Common.{Bool, [], ap, arith, false, inl, inr, refl, suc, sym, true, zero, ℕ, ◌*◌, ◌+◌, ◌<◌, ◌==◌, ◌∙◌, ◌∷◌, ◌≡◌, ◌≤◌}
use Rattle.counting.proofs.Booleans.{cases_eq, cases_lt, eq-eqb, eqb-true}
use Rattle.std.specs.List.{sum_by}
use Rattle.std.specs.Prelude.{filter, length}
use Rattle.counting.proofs.ButOne.{sum_below-plus}
use Rattle.counting.proofs.Counts.{count_none, count_one, one-false, one-most, one-true, sum_below-at, sum_below-const, sum_below-le, sum_below-mul, sum_below-same, sum_below-turn}
use Rattle.counting.proofs.Lists.{sum_by-join_below, sum_by-length, sum_by-single}
use Rattle.counting.proofs.OnePlace.{filter_sum}
use Rattle.counting.specs.Sums.{list_below, one, sum_below}

pub sum_by-list_below : {X : Type 0} (f : X → ℕ) (n : ℕ) (g : ℕ → X) → sum_by f (list_below n g) ≡ sum_below n (λ i. f (g i))
sum_by-list_below f n g = sum_by-join_below f n (λ i. g i ∷ []) ∙ sum_below-same n _ _ (λ i l. sum_by-single f (g i))

pub sum_below-single : (f : ℕ → ℕ) → sum_below 1 f ≡ f 0
unfolding sum_below
sum_below-single f = omega arith

grid_rows : (e f : ℕ) (g : ℕ → ℕ) → sum_below f (λ j. sum_below e (λ i. g (i + e * j))) ≡ sum_below (e * f) g
unfolding sum_below
grid_rows e zero g = ap (λ t. sum_below t g) (let e : 0 ≡ e * 0 = omega arith in e)
grid_rows e (suc f) g = omega (
  arith,
  grid_rows e f g,
  ap (λ t. sum_below t g) (let s : e * suc f ≡ e * f + e = omega arith in s),
  sum_below-plus (e * f) e g,
  sum_below-same e (λ i. g (i + e * f)) (λ i. g (e * f + i)) (λ i l. ap g (let s : i + e * f ≡ e * f + i = omega arith in s)),
)

-- a sum over the numbers below e * f, by their places i + e * j
pub sum_below-grid : (e f : ℕ) (g : ℕ → ℕ) → sum_below e (λ i. sum_below f (λ j. g (i + e * j))) ≡ sum_below (e * f) g
sum_below-grid e f g = sum_below-turn e f (λ i j. g (i + e * j)) ∙ grid_rows e f g

-- no term is more than the sum
pub sum_below-term : (n i : ℕ) (f : ℕ → ℕ) → i < n → f i ≤ sum_below n f
unfolding sum_below
sum_below-term zero i f l = absurd (omega arith)
sum_below-term (suc n) i f l = elim (cases_eq i n) [
  | inl e ↦ omega (arith, ap f e)
  | inr d ↦ omega (arith, sum_below-term n i f (omega arith))
]

-- and no two terms are
pub sum_below-two : (n i j : ℕ) (f : ℕ → ℕ) → i < j → j < n → f i + f j ≤ sum_below n f
unfolding sum_below
sum_below-two zero i j f l m = absurd (omega arith)
sum_below-two (suc n) i j f l m = elim (cases_eq j n) [
  | inl e ↦ omega (arith, ap f e, sum_below-term n i f (omega arith))
  | inr d ↦ omega (arith, sum_below-two n i j f l (omega arith))
]

-- terms of at least c each whose sum is no more than n of them
pub each_least : (n c : ℕ) (f : ℕ → ℕ) → ((i : ℕ) → i < n → c ≤ f i) → sum_below n f ≤ n * c → (i : ℕ) → i < n → f i ≡ c
unfolding sum_below
each_least zero c f h t i l = absurd (omega arith)
each_least (suc n) c f h t i l =
    let rest : n * c ≤ sum_below n f = omega (arith, sum_below-const n c, sum_below-le n (λ i. c) f (λ i l. h i (omega arith))) in
    elim (cases_eq i n) [
      | inl e ↦ omega (arith, ap f e, h n (omega arith))
      | inr d ↦ each_least n c f (λ i l. h i (omega arith)) (omega (arith, h n (omega arith))) i (omega arith)
    ]

-- terms of at most c each whose sum is no less than n of them
pub each_most : (n c : ℕ) (f : ℕ → ℕ) → ((i : ℕ) → i < n → f i ≤ c) → n * c ≤ sum_below n f → (i : ℕ) → i < n → f i ≡ c
unfolding sum_below
each_most zero c f h t i l = absurd (omega arith)
each_most (suc n) c f h t i l =
    let rest : sum_below n f ≤ n * c = omega (arith, sum_below-const n c, sum_below-le n f (λ i. c) (λ i l. h i (omega arith))) in
    elim (cases_eq i n) [
      | inl e ↦ omega (arith, ap f e, h n (omega arith))
      | inr d ↦ each_most n c f (λ i l. h i (omega arith)) (omega (arith, h n (omega arith))) i (omega arith)
    ]

pub one_passes : (b : Bool) → 0 < one b → b ≡ true
unfolding one
one_passes true l = refl
one_passes false l = absurd (omega arith)

-- a test that no two numbers below n pass
pub count_unique : (n : ℕ) (p : ℕ → Bool) → ((i j : ℕ) → i < n → j < n → p i ≡ true → p j ≡ true → i ≡ j) → sum_below n (λ i. one (p i)) ≤ 1
unfolding sum_below
count_unique zero p u = omega arith
count_unique (suc n) p u = elim (cases_lt 0 (one (p n))) [
  | inl l ↦ omega (arith, one-most (p n), count_none n p (λ i m e. absurd (omega (arith, u i n (omega arith) (omega arith) e (one_passes (p n) l)))))
  | inr l ↦ omega (arith, count_unique n p (λ i j l m. u i j (omega arith) (omega arith)))
]

-- a number is at most one of those below n
pub count_few : (n z : ℕ) → sum_below n (λ y. one (z == y)) ≤ 1
count_few n z = count_unique n (λ y. z == y) (λ i j l m e f. sym (eqb-true z i e) ∙ eqb-true z j f)

-- the term of z alone
pub sum_below-pick : (n z : ℕ) (f : ℕ → ℕ) → z < n → sum_below n (λ x. f x * one (z == x)) ≡ f z
sum_below-pick n z f l =
    sum_below-at n z (λ x. f x * one (z == x)) l (λ x m ne. ap (λ t. f x * t) (one-false (z == x) (λ e. ne (sym (eqb-true z x e)))) ∙ omega arith)
    ∙ ap (λ t. f z * t) (one-true (z == z) (eq-eqb z z refl)) ∙ omega arith

-- how many numbers below n pass a test
pub length_filtered : (test : ℕ → Bool) (n : ℕ) → length (filter test (list_below n (λ i. i))) ≡ sum_below n (λ i. one (test i))
length_filtered test n =
    sym (sum_by-length (filter test (list_below n (λ i. i)))) ∙ filter_sum test (λ i. 1) (list_below n (λ i. i))
    ∙ sum_by-list_below (λ i. one (test i) * 1) n (λ i. i) ∙ sum_below-same n _ _ (λ i l. omega arith)

-- a sum over renamed numbers, where each number is the name of exactly one
pub sum_below-renamed : (n m : ℕ) (s : ℕ → ℕ) (f : ℕ → ℕ) → ((i : ℕ) → i < n → s i < m) → ((k : ℕ) → k < m → sum_below n (λ i. one (s i == k)) ≡ 1) → sum_below n (λ i. f (s i)) ≡ sum_below m f
sum_below-renamed n m s f small once =
    sum_below-same n (λ i. f (s i)) (λ i. sum_below m (λ k. f k * one (s i == k))) (λ i l. sym (sum_below-pick m (s i) f (small i l)))
    ∙ sum_below-turn n m (λ i k. f k * one (s i == k))
    ∙ sum_below-same m (λ k. sum_below n (λ i. f k * one (s i == k))) f (λ k l. sum_below-mul n (f k) (λ i. one (s i == k)) ∙ ap (λ t. f k * t) (once k l) ∙ omega arith)

-- the same, where no two of the numbers have one name
pub sum_below-moved : (n : ℕ) (s : ℕ → ℕ) (f : ℕ → ℕ) → ((i : ℕ) → i < n → s i < n) → ((i j : ℕ) → i < n → j < n → s i ≡ s j → i ≡ j) → sum_below n (λ i. f (s i)) ≡ sum_below n f
sum_below-moved n s f small apart = sum_below-renamed n n s f small (each_most n 1 (λ k. sum_below n (λ i. one (s i == k))) few (omega (arith, total)))
  where
    few : (k : ℕ) → k < n → sum_below n (λ i. one (s i == k)) ≤ 1
    few k l = count_unique n (λ i. s i == k) (λ i j a b e g. apart i j a b (eqb-true (s i) k e ∙ sym (eqb-true (s j) k g)))

    total : sum_below n (λ k. sum_below n (λ i. one (s i == k))) ≡ n * 1
    total = sum_below-turn n n (λ k i. one (s i == k))
        ∙ sum_below-same n (λ i. sum_below n (λ k. one (s i == k))) (λ i. 1) (λ i l. count_one n (s i) (λ k. s i == k) (small i l) (eq-eqb (s i) (s i) refl) (λ k m e. sym (eqb-true (s i) k e)))
        ∙ sum_below-const n 1
