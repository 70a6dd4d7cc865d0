-- The points of a block, counted.
use Rattle.std.proofs.Common.{Bool, List, [], ap, arith, cond, false, get_or, inl, inr, length, refl, subst, sym, true, ℕ, ◌&&◌, ◌*◌, ◌+◌, ◌<◌, ◌==◌, ◌||◌, ◌∙◌, ◌∷◌, ◌≡◌, ◌≢◌}
use Rattle.counting.proofs.Booleans.{and_from, bool_same, cond_both, eq-eqb, eqb-false, eqb-true, false≢true, ne_eqb, or_cases, or_parts}
use Rattle.std.proofs.lemmas.List.Folds.{list_any_at}
use Rattle.std.proofs.lemmas.List.Sums.{get_or-le-sum_by, sum_by-cons}
use Rattle.std.specs.List.{AllByRecursion, sum_by}
use Rattle.std.specs.Prelude.{filter}
use Rattle.counting.proofs.Counts.{one-false, one-true, sum_below-same}
use Rattle.counting.proofs.Lists.{all_filter, each-weaker, sum_by-mul, sum_by-same, sum_by-sum_below}
use Rattle.counting.proofs.Ranges.{each_below}
use Rattle.counting.proofs.Totals.{sum_below-pick}
use Rattle.counting.specs.Sums.{list_below, one, sum_below}
use Rattle.design_base.proofs.Canonical.{Differs}
use Rattle.design_base.proofs.Cover.{cover-is, holds-cons, holds-none, holds_below-from}
use Rattle.design_base.specs.Blocks.{cover, holds}

-- what holds of each point of a block holds of x, where the block holds x
pub each_at : (P : ℕ → Type 0) (x : ℕ) (b : List ℕ) → AllByRecursion P b → holds x b ≡ true → P x
each_at P x [] h e = absurd (false≢true (sym (holds-none x) ∙ e))
each_at P x (z ∷ b) h e = elim (or_cases (z == x) (holds x b) (sym (holds-cons x z b) ∙ e)) [
  | inl f ↦ subst P (eqb-true z x f) h.0
  | inr f ↦ each_at P x b h.1 f
]

one-or : (p q : Bool) → (p ≡ true → q ≡ true → ⊥) → one (p || q) ≡ one p + one q
unfolding one
one-or true true h = absurd (h refl refl)
one-or true false h = refl
one-or false q h = omega arith

-- a block of different points holds x as often as x stands in it
pub one-holds : (x : ℕ) (b : List ℕ) → Differs b → one (holds x b) ≡ sum_by (λ z. one (z == x)) b
one-holds x [] d = ap one (holds-none x) ∙ one-false false (λ e. false≢true e)
one-holds x (z ∷ b) d = omega (arith, ap one (holds-cons x z b), one-or (z == x) (holds x b) (λ e f. each_at (λ y. z ≢ y) x b d.0 f (eqb-true z x e)), one-holds x b d.1, sum_by-cons (λ z. one (z == x)) z b)

-- a block that holds both points is one
pub cover_positive : (B : List (List ℕ)) (m : ℕ) (x y : ℕ) → m < length B → holds x (get_or B m []) ≡ true → holds y (get_or B m []) ≡ true → 0 < cover B x y
unfolding one
cover_positive B m x y l h g = omega (arith, cover-is B x y, get_or-le-sum_by (λ b. one (holds x b && holds y b)) B m [] l, one-true (holds x (get_or B m []) && holds y (get_or B m [])) (and_from _ _ h g))

pub holds_element : (b : List ℕ) (i : ℕ) → i < length b → holds (get_or b i 0) b ≡ true
unfolding holds
holds_element b i l = list_any_at (λ z. z == get_or b i 0) b i 0 l (eq-eqb (get_or b i 0) (get_or b i 0) refl)

pub holds-filter : (q : ℕ → Bool) (x : ℕ) (b : List ℕ) → q x ≡ true → holds x (filter q b) ≡ holds x b
holds-filter q x [] e = refl
holds-filter q x (z ∷ b) e = both (q z) refl (holds-filter q x b e)
  where
    both : (t : Bool) → q z ≡ t → holds x (filter q b) ≡ holds x b → holds x (cond t (z ∷ filter q b) (filter q b)) ≡ holds x (z ∷ b)
    both true f h = holds-cons x z (filter q b) ∙ ap (λ s. (z == x) || s) h ∙ sym (holds-cons x z b)
    both false f h = h ∙ sym (holds-cons x z b ∙ ap (λ s. s || holds x b) (ne_eqb z x (λ g. false≢true (sym f ∙ ap q g ∙ e))))

pub differs_filter : (q : ℕ → Bool) (b : List ℕ) → Differs b → Differs (filter q b)
differs_filter q [] d = tt
differs_filter q (x ∷ b) d = cond_both (q x) _ _ Differs (λ e. (all_filter (λ y. x ≢ y) (λ y. x ≢ y) q (λ y h g. h) b d.0, differs_filter q b d.1)) (λ e. differs_filter q b d.1)

pub misses : (p : ℕ) (b : List ℕ) → holds p b ≡ false → AllByRecursion (λ z. z < p + 1) b → AllByRecursion (λ z. z < p) b
misses p [] h s = tt
misses p (z ∷ b) h s = let f = or_parts _ _ (sym (holds-cons p z b) ∙ h) in (omega (arith, s.0, eqb-false z p f.0), misses p b f.1 s.1)

-- a filtered range holds what passes
pub holds_filter : (test : ℕ → Bool) (n x : ℕ) → holds x (filter test (list_below n (λ i. i))) ≡ true → (x < n) × (test x ≡ true)
holds_filter test n x h = each_at (λ z. (z < n) × (test z ≡ true)) x (filter test (list_below n (λ i. i)))
    (all_filter (λ z. z < n) (λ z. (z < n) × (test z ≡ true)) test (λ z l e. (l, e)) (list_below n (λ i. i)) (each_below (λ z. z < n) n (λ i. i) (λ i l. l))) h

pub holds_filtered : (test : ℕ → Bool) (n x : ℕ) → x < n → holds x (filter test (list_below n (λ i. i))) ≡ test x
holds_filtered test n x l = bool_same _ _ (λ h. (holds_filter test n x h).1)
    (λ e. holds-filter test x (list_below n (λ i. i)) e ∙ holds_below-from n x (λ i. i) x l refl)

-- a sum over the points of a set, as one over all points
pub sum_set : (v : ℕ) (f : ℕ → ℕ) (row : List ℕ) → Differs row → AllByRecursion (λ x. x < v) row → sum_by f row ≡ sum_below v (λ x. f x * one (holds x row))
sum_set v f row d below =
    sum_by-same f (λ z. sum_below v (λ x. f x * one (z == x))) row (each-weaker (λ z. z < v) _ (λ z l. sym (sum_below-pick v z f l)) row below)
    ∙ sum_by-sum_below (λ x z. f x * one (z == x)) v row
    ∙ sum_below-same v _ (λ x. f x * one (holds x row)) (λ x l. sum_by-mul (f x) (λ z. one (z == x)) row ∙ ap (λ n. f x * n) (sym (one-holds x row d)))
