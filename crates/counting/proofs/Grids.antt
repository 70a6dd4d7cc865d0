-- Sums over two numbers, and tests on them with two solutions.
use Rattle.std.proofs.Common.{Bool, ap₂, false, inl, inr, refl, true, ℕ, ◌&&◌, ◌+◌, ◌<◌, ◌==◌, ◌∙◌, ◌≡◌, ◌≢◌, ◌⊎◌, arith}
use Rattle.counting.proofs.Booleans.{both_equal, both_equal-from, false≢true}
use Rattle.counting.proofs.Counts.{grid_one, sum_below-add, sum_below-same}
use Rattle.counting.specs.Sums.{one, sum_below}

-- the sum of f x y over x < n and y < m
abbrev pub grid : ℕ → ℕ → (ℕ → ℕ → ℕ) → ℕ
grid n m f = sum_below n (λ x. sum_below m (λ y. f x y))

pub grid_same : (n m : ℕ) (f g : ℕ → ℕ → ℕ) → ((x y : ℕ) → x < n → y < m → f x y ≡ g x y) → grid n m f ≡ grid n m g
grid_same n m f g h = sum_below-same n _ _ (λ x i. sum_below-same m _ _ (λ y j. h x y i j))

pub grid_add : (n m : ℕ) (f g : ℕ → ℕ → ℕ) → grid n m (λ x y. f x y + g x y) ≡ grid n m f + grid n m g
grid_add n m f g = sum_below-same n _ (λ x. sum_below m (λ y. f x y) + sum_below m (λ y. g x y)) (λ x i. sum_below-add m (λ y. f x y) (λ y. g x y)) ∙ sum_below-add n (λ x. sum_below m (λ y. f x y)) (λ x. sum_below m (λ y. g x y))

-- a test that is one of two that do not hold together
two_tests : (t u w : Bool) → (t ≡ true → (u ≡ true) ⊎ (w ≡ true)) → (u ≡ true → t ≡ true) → (w ≡ true → t ≡ true) → (u ≡ true → w ≡ true → ⊥) → one t ≡ one u + one w
unfolding one
two_tests true true true a b c d = absurd (d refl refl)
two_tests true true false a b c d = refl
two_tests true false true a b c d = refl
two_tests true false false a b c d = elim (a refl) [ inl e ↦ cc | inr e ↦ cc ]
two_tests false true w a b c d = absurd (false≢true (b refl))
two_tests false false true a b c d = absurd (false≢true (c refl))
two_tests false false false a b c d = refl

-- a test on two numbers with exactly two solutions
pub grid_two : (n m a b c d : ℕ) (p : ℕ → ℕ → Bool) → a < n → b < m → c < n → d < m → (a ≢ c) ⊎ (b ≢ d) → p a b ≡ true → p c d ≡ true → ((x y : ℕ) → x < n → y < m → p x y ≡ true → ((x ≡ a) × (y ≡ b)) ⊎ ((x ≡ c) × (y ≡ d))) → grid n m (λ x y. one (p x y)) ≡ 2
grid_two n m a b c d p la lb lc ld ne e f only =
    grid_same n m (λ x y. one (p x y)) (λ x y. one (is a b x y) + one (is c d x y)) (λ x y i j. two_tests (p x y) (is a b x y) (is c d x y)
    (λ t. elim (only x y i j t) [ inl h ↦ inl (both_equal-from x y a b h.0 h.1) | inr h ↦ inr (both_equal-from x y c d h.0 h.1) ])
    (λ t. let h = both_equal x y a b t in ap₂ p h.0 h.1 ∙ e)
    (λ t. let h = both_equal x y c d t in ap₂ p h.0 h.1 ∙ f)
    (λ t u. let h = both_equal x y a b t in let g = both_equal x y c d u in omega arith))
    ∙ grid_add n m (λ x y. one (is a b x y)) (λ x y. one (is c d x y))
    ∙ ap₂ (λ s t. s + t)
    (grid_one n m a b (is a b) la lb (both_equal-from a b a b refl refl) (λ x y i j t. both_equal x y a b t))
    (grid_one n m c d (is c d) lc ld (both_equal-from c d c d refl refl) (λ x y i j t. both_equal x y c d t))
  where
    is : ℕ → ℕ → ℕ → ℕ → Bool
    is a b x y = (x == a) && (y == b)
