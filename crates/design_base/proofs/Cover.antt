-- How cover is counted.
use Rattle.std.proofs.Common.{List, [], add-zero, ap, arith, cond, false, inl, inr, refl, suc, sym, true, zero, ℕ, ◌&&◌, ◌++◌, ◌+◌, ◌<◌, ◌==◌, ◌||◌, ◌∙◌, ◌∷◌, ◌≡◌, ◌⊎◌}
use Rattle.counting.proofs.Booleans.{and_turn, cases_eq, false≢true, or_cases, or_left, or_right}
use Rattle.std.proofs.lemmas.Bool.Decides.{nat_tests}
use Rattle.std.proofs.lemmas.List.Folds.{list_any-append}
use Rattle.std.proofs.lemmas.List.Sums.{sum_by-append, sum_by-cons}
use Rattle.std.specs.List.{sum_by}
use Rattle.counting.proofs.Counts.{count_pairs}
use Rattle.counting.specs.Sums.{join_below, list_below, one, sum_below}
use Rattle.design_base.specs.Blocks.{cover, holds}

pub holds-none : (x : ℕ) → holds x [] ≡ false
unfolding holds
holds-none x = refl

pub holds-cons : (x z : ℕ) (b : List ℕ) → holds x (z ∷ b) ≡ ((z == x) || holds x b)
unfolding holds
holds-cons x z b = refl

pub holds_single : (z x : ℕ) → holds x (z ∷ []) ≡ true → z ≡ x
unfolding holds
holds_single z x h = grind (arith, nat_tests)

pub holds_single-from : (z x : ℕ) → z ≡ x → holds x (z ∷ []) ≡ true
unfolding holds
holds_single-from z x h = grind (arith, nat_tests)

pub cover-none : (x y : ℕ) → cover [] x y ≡ 0
unfolding cover
cover-none x y = refl

pub cover-cons : (b : List ℕ) (B : List (List ℕ)) (x y : ℕ) → cover (b ∷ B) x y ≡ one (holds x b && holds y b) + cover B x y
unfolding cover one
cover-cons b B x y = sum_by-cons (λ c. cond (holds x c && holds y c) 1 0) b B

pub cover-single : (b : List ℕ) (x y : ℕ) → cover (b ∷ []) x y ≡ one (holds x b && holds y b)
cover-single b x y = rw (cover-cons, cover-none, add-zero)

pub cover-append : (B C : List (List ℕ)) (x y : ℕ) → cover (B ++ C) x y ≡ cover B x y + cover C x y
unfolding cover
cover-append B C x y = sum_by-append (λ c. cond (holds x c && holds y c) 1 0) B C

pub cover-join_below : (n : ℕ) (f : ℕ → List (List ℕ)) (x y : ℕ) → cover (join_below n f) x y ≡ sum_below n (λ i. cover (f i) x y)
unfolding join_below sum_below
cover-join_below zero f x y = cover-none x y
cover-join_below (suc n) f x y = omega (arith, cover-append (join_below n f) (f n) x y, cover-join_below n f x y)

pub cover-turn : (B : List (List ℕ)) (x y : ℕ) → cover B x y ≡ cover B y x
cover-turn [] x y = cover-none x y ∙ sym (cover-none y x)
cover-turn (b ∷ B) x y = rw (cover-cons, cover-cons, cover-turn B x y) (ap (λ t. one t + cover B y x) (and_turn (holds x b) (holds y b)))

-- a list of one block for each pair x < y < n
pub cover-pairs : (n : ℕ) (f : ℕ → ℕ → List ℕ) (x y : ℕ) → cover (join_below n (λ q. join_below q (λ p. f p q ∷ []))) x y ≡ count_pairs n (λ p q. holds x (f p q) && holds y (f p q))
cover-pairs n f x y = simp (cover-join_below, cover-single)

pub cover-each : (n : ℕ) (f : ℕ → List ℕ) (x y : ℕ) → cover (join_below n (λ q. f q ∷ [])) x y ≡ sum_below n (λ q. one (holds x (f q) && holds y (f q)))
cover-each n f x y = simp (cover-join_below, cover-single)

-- which points a block of three holds
pub holds_three : (x p q r : ℕ) → holds x (p ∷ q ∷ r ∷ []) ≡ true → (p ≡ x) ⊎ ((q ≡ x) ⊎ (r ≡ x))
unfolding holds
holds_three x p q r h = grind (arith, nat_tests)

pub holds_three-from : (x p q r : ℕ) → (p ≡ x) ⊎ ((q ≡ x) ⊎ (r ≡ x)) → holds x (p ∷ q ∷ r ∷ []) ≡ true
unfolding holds
holds_three-from x p q r h = grind (arith, nat_tests)

pub cover-is : (B : List (List ℕ)) (x y : ℕ) → cover B x y ≡ sum_by (λ b. one (holds x b && holds y b)) B
unfolding cover one
cover-is B x y = refl

pub holds-append : (x : ℕ) (a b : List ℕ) → holds x (a ++ b) ≡ (holds x a || holds x b)
unfolding holds
holds-append x a b = list_any-append (λ z. z == x) a b

-- which points a list f 0, f 1, .. holds
pub holds_below : (n x : ℕ) (f : ℕ → ℕ) → holds x (list_below n f) ≡ true → (i : ℕ) × (i < n) × (f i ≡ x)
unfolding join_below
holds_below zero x f h = absurd (false≢true (sym (holds-none x) ∙ h))
holds_below (suc n) x f h = elim (or_cases (holds x (list_below n f)) (holds x (f n ∷ [])) (sym (holds-append x (list_below n f) (f n ∷ [])) ∙ h)) [
  | inl e ↦ let r = holds_below n x f e in (r.0, omega arith, r.2)
  | inr e ↦ (n, omega arith, holds_single (f n) x e)
]

pub holds_below-from : (n x : ℕ) (f : ℕ → ℕ) (i : ℕ) → i < n → f i ≡ x → holds x (list_below n f) ≡ true
unfolding join_below
holds_below-from zero x f i l e = absurd (omega arith)
holds_below-from (suc n) x f i l e = holds-append x (list_below n f) (f n ∷ []) ∙ elim (cases_eq i n) [
  | inl s ↦ or_right _ _ (holds_single-from (f n) x (ap f (sym s) ∙ e))
  | inr d ↦ or_left _ _ (holds_below-from n x f i (omega arith) e)
]
