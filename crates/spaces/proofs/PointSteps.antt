-- How the points and their places are listed, vector by vector.
use Rattle.std.proofs.Common.{Bool, List, [], ap, arith, cond, inl, inr, length, refl, subst, suc, sym, ℕ, ◌++◌, ◌+◌, ◌<◌, ◌==◌, ◌^◌, ◌∙◌, ◌∷◌, ◌≡◌, ◌≢◌, ◌≤◌}
use Rattle.counting.proofs.Booleans.{cases_eq, cond_both, eq-eqb, ne_eqb}
use Rattle.std.proofs.lemmas.List.{append-nil, get_or_append_left, get_or_push, length_push}
use Rattle.std.proofs.lemmas.List.Elements.{filter-append}
use Rattle.std.proofs.lemmas.Option.{get_or_from_slice_get, slice_get_within}
use Rattle.std.specs.Prelude.{Some, filter, slice_get}
use Rattle.counting.proofs.Counts.{join_below_more, join_below_none}
use Rattle.counting.proofs.Ranges.{length-list_below}
use Rattle.counting.specs.Sums.{list_below}
use Rattle.spaces.specs.Points.{AreNumbers, ArePlaces, IsPlace, lead, points, points_below}
use Rattle.spaces.specs.Vectors.{multiple}

pub points_below-none : (q n : ℕ) → points_below q n 0 ≡ []
unfolding points_below
points_below-none q n = ap (filter (λ x. lead q n x == 1)) (join_below_none (λ i. i ∷ []))

points_below-more : (q n x : ℕ) → points_below q n (x + 1) ≡ points_below q n x ++ cond (lead q n x == 1) (x ∷ []) []
unfolding points_below
points_below-more q n x = ap (filter (λ x. lead q n x == 1)) (join_below_more x (λ i. i ∷ [])) ∙ filter-append (λ x. lead q n x == 1) (list_below x (λ i. i)) (x ∷ [])

pub points_below-taken : (q n x : ℕ) → lead q n x ≡ 1 → points_below q n (x + 1) ≡ points_below q n x ++ x ∷ []
points_below-taken q n x e = points_below-more q n x ∙ ap (λ t. points_below q n x ++ cond t (x ∷ []) []) (eq-eqb (lead q n x) 1 e)

pub points_below-left : (q n x : ℕ) → lead q n x ≢ 1 → points_below q n (x + 1) ≡ points_below q n x
points_below-left q n x ne = points_below-more q n x ∙ ap (λ t. points_below q n x ++ cond t (x ∷ []) []) (ne_eqb (lead q n x) 1 ne) ∙ append-nil (points_below q n x)

pub points_all : (q n v : ℕ) → v ≡ q ^ n → points_below q n v ≡ points q n
unfolding points
points_all q n v e = ap (points_below q n) e

pub places-one : (mul : ℕ → ℕ → ℕ) (q n : ℕ) → ArePlaces mul q n 1 (0 ∷ [])
places-one mul q n = record { count = refl; each = λ x pos l. absurd (omega arith) }

pub places-push : (mul : ℕ → ℕ → ℕ) (q n x i : ℕ) (places : List ℕ) → ArePlaces mul q n x places → IsPlace mul q n x i → ArePlaces mul q n (x + 1) (places ++ i ∷ [])
places-push mul q n x i places h p = record {
  count = omega (arith, length_push places i, h.count);
  each = λ y pos l. elim (cases_eq y x) [
    | inl e ↦ subst (λ j. IsPlace mul q n y j) (sym (get_or_push places i 0 y (h.count ∙ sym e))) (subst (λ z. IsPlace mul q n z i) (sym e) p)
    | inr ne ↦ subst (λ j. IsPlace mul q n y j) (sym (get_or_append_left places (i ∷ []) 0 y (omega (arith, h.count)))) (h.each y pos (omega arith))
  ];
}

length-filter-le : (test : ℕ → Bool) (xs : List ℕ) → length (filter test xs) ≤ length xs
length-filter-le test [] = omega arith
length-filter-le test (x ∷ xs) = cond_both (test x) _ _ (λ (ys : List ℕ). length ys ≤ suc (length xs)) (λ e. omega (arith, length-filter-le test xs)) (λ e. omega (arith, length-filter-le test xs))

pub few_points : (q n : ℕ) → length (points q n) ≤ q ^ n
unfolding points points_below
few_points q n = omega (arith, length-filter-le (λ x. lead q n x == 1) (list_below (q ^ n) (λ x. x)), length-list_below (q ^ n) (λ (x : ℕ). x))

pub is_place : (mul : ℕ → ℕ → ℕ) (q n x i y : ℕ) (P : List ℕ) → P ≡ points q n → (c : ℕ) × (c < q) × (multiple mul q n c x ≡ y) → slice_get P i ≡ Some y → IsPlace mul q n x i
is_place mul q n x i y P e m found =
    let found : slice_get (points q n) i ≡ Some y = ap (λ t. slice_get t i) (sym e) ∙ found in record {
      factor = m.0;
      small = m.1;
      within = slice_get_within (points q n) i y found;
      equal = m.2 ∙ sym (get_or_from_slice_get (points q n) i y 0 found);
    }

pub ruleset point_steps = (points_below-none, points_below-taken, points_below-left, points_all, places-one, places-push)

pub numbers-none : AreNumbers 0 []
numbers-none = record { count = refl; each = λ i l. absurd (omega arith) }

pub numbers-push : (v : ℕ) (xs : List ℕ) → AreNumbers v xs → AreNumbers (v + 1) (xs ++ v ∷ [])
numbers-push v xs h = record {
  count = omega (arith, length_push xs v, h.count);
  each = λ i l. elim (cases_eq i v) [
    | inl e ↦ get_or_push xs v 0 i (h.count ∙ sym e) ∙ sym e
    | inr ne ↦ get_or_append_left xs (v ∷ []) 0 i (omega (arith, h.count)) ∙ h.each i (omega arith)
  ];
}

pub ruleset number_steps = (numbers-none, numbers-push)
