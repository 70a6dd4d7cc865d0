-- The numbers below a bound that pass a test, as a block.
use Rattle.std.proofs.Common.{Bool, List, [], ap, ap₂, arith, cond, false, inl, inr, length, refl, sym, true, zero, suc, ℕ, ◌&&◌, ◌++◌, ◌+◌, ◌<◌, ◌==◌, ◌||◌, ◌∙◌, ◌∷◌, ◌≡◌, ◌≢◌, ◌≤◌}
use Rattle.counting.proofs.Booleans.{and_right, and_true, cases_eq, cond_both, eq-eqb, ne_eqb, or_false, or_from}
use Rattle.std.proofs.lemmas.List.{append-nil, length-append}
use Rattle.std.specs.List.{AllByRecursion}
use Rattle.counting.proofs.Lists.{each-push, each-weaker}
use Rattle.counting.specs.Sums.{join_below, one, sum_below}
use Rattle.design_base.proofs.Canonical.{Differs, IsPointSet, differs-push}
use Rattle.design_base.proofs.Cover.{holds-append, holds-cons, holds-none}
use Rattle.design_base.specs.Blocks.{holds}
use Rattle.gdd_pbd.specs.Basic.{kept}

piece_holds : (x z : ℕ) (t : Bool) → holds x (cond t (z ∷ []) []) ≡ (t && (z == x))
piece_holds x z true = holds-cons x z [] ∙ ap (λ q. (z == x) || q) (holds-none x) ∙ or_false (z == x)
piece_holds x z false = holds-none x

kept_above : (n x : ℕ) (p : ℕ → Bool) → n ≤ x → holds x (kept n p) ≡ false
unfolding kept join_below
kept_above zero x p l = holds-none x
kept_above (suc n) x p l = holds-append x (kept n p) (cond (p n) (n ∷ []) []) ∙ or_from _ _ (kept_above n x p (omega arith)) (piece_holds x n (p n) ∙ and_right _ _ (ne_eqb n x (omega arith)))

pub holds-kept : (n x : ℕ) (p : ℕ → Bool) → x < n → holds x (kept n p) ≡ p x
unfolding kept join_below
holds-kept zero x p l = absurd (omega arith)
holds-kept (suc n) x p l = holds-append x (kept n p) (cond (p n) (n ∷ []) []) ∙ elim (cases_eq x n) [
  | inl e ↦ rw e (ap₂ (λ s t. s || t) (kept_above n n p (omega arith)) (piece_holds n n (p n)) ∙ ap (λ t. p n && t) (eq-eqb n n refl) ∙ and_true (p n))
  | inr ne ↦ ap₂ (λ s t. s || t) (holds-kept n x p (omega arith)) (piece_holds x n (p n) ∙ and_right _ _ (ne_eqb n x (λ e. ne (sym e)))) ∙ or_false (p x)
]

wider : (n : ℕ) (b : List ℕ) → AllByRecursion (λ x. x < n) b → AllByRecursion (λ x. x < suc n) b
wider n b h = each-weaker (λ x. x < n) (λ x. x < suc n) (λ x l. omega arith) b h

kept-below : (n : ℕ) (p : ℕ → Bool) → AllByRecursion (λ x. x < n) (kept n p)
unfolding kept join_below
kept-below zero p = tt
kept-below (suc n) p = cond_both (p n) _ _ (λ tail. AllByRecursion (λ x. x < suc n) (kept n p ++ tail))
    (λ e. each-push (λ x. x < suc n) (kept n p) n (wider n (kept n p) (kept-below n p)) (omega arith))
    (λ e. rw (append-nil (kept n p)) (wider n (kept n p) (kept-below n p)))

kept-differs : (n : ℕ) (p : ℕ → Bool) → Differs (kept n p)
unfolding kept join_below
kept-differs zero p = tt
kept-differs (suc n) p = cond_both (p n) _ _ (λ tail. Differs (kept n p ++ tail))
    (λ e. differs-push (kept n p) n (kept-differs n p) (each-weaker (λ x. x < n) (λ x. x ≢ n) (λ x l. omega arith) (kept n p) (kept-below n p)))
    (λ e. rw (append-nil (kept n p)) (kept-differs n p))

length_piece : (z : ℕ) (t : Bool) → length (cond t (z ∷ []) []) ≡ one t
unfolding one
length_piece z true = refl
length_piece z false = refl

length-kept : (n : ℕ) (p : ℕ → Bool) → length (kept n p) ≡ sum_below n (λ x. one (p x))
unfolding kept join_below sum_below
length-kept zero p = refl
length-kept (suc n) p = length-append (kept n p) (cond (p n) (n ∷ []) []) ∙ ap₂ (λ s t. s + t) (length-kept n p) (length_piece n (p n))

-- it is a block of so many points as pass the test
pub kept_set : (n k : ℕ) (p : ℕ → Bool) → sum_below n (λ x. one (p x)) ≡ k → IsPointSet n (λ s. s ≡ k) (kept n p)
kept_set n k p count = record {
  differs = kept-differs n p;
  below = kept-below n p;
  size = length-kept n p ∙ count;
}
