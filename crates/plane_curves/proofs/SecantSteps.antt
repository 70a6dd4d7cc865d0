-- How the lines of two vectors are listed.
use Rattle.std.proofs.Common.{Bool, List, [], ap, ap₂, arith, cond, false, inl, inr, length, sym, true, ℕ, ◌++◌, ◌+◌, ◌<◌, ◌==◌, ◌∙◌, ◌∷◌, ◌≡◌, ◌≢◌, ◌≤◌}
use Rattle.counting.proofs.Booleans.{cases_Bool, cases_eq, cases_lt, eq-eqb, eqb-true, false≢true, le-leb, leb-true, or_cases, or_left, or_right}
use Rattle.std.proofs.lemmas.List.{append-nil, append_assoc}
use Rattle.std.proofs.lemmas.List.Elements.{All-from_recursion, filter-append, recursion_from_All}
use Rattle.std.proofs.lemmas.List.Sums.{AllPass-from_list_all, count_by-le-length, length-filter, list_all-from_AllPass}
use Rattle.std.specs.Prelude.{filter, nat_le, ◌||◌}
use Rattle.counting.proofs.Counts.{join_below_more, join_below_none}
use Rattle.counting.proofs.Lists.{all_filter}
use Rattle.counting.proofs.Ranges.{each_below, length-list_below}
use Rattle.counting.specs.Sums.{list_below}
use Rattle.design_base.proofs.Points.{each_at, holds_filtered}
use Rattle.spaces.specs.Least.{are_least}
use Rattle.spaces.proofs.LeastSteps.{least_lines-more, least_lines-none, lines_to-left, lines_to-none, lines_to-taken}
use Rattle.plane_curves.specs.Secants.{dot, half_cross, is_on_line, secant, secant_below, vector_at}
use Rattle.plane_curves.specs.declared.vectors.Vector.{Vector}

module _ (add mul : ℕ → ℕ → ℕ) where
  -- the test by the halves
  pub on_line : (x y z left right : Vector) (b : Bool) → left ≡ half_cross mul x y → right ≡ half_cross mul y x → b ≡ (dot add mul left z == dot add mul right z) → is_on_line add mul x y z ≡ b
  unfolding is_on_line
  on_line x y z left right b e f g = sym (g ∙ ap₂ (λ l r. dot add mul l z == dot add mul r z) e f)

  module _ (V : List Vector) (i j : ℕ) where
    on : ℕ → Bool
    on k = is_on_line add mul (vector_at V i) (vector_at V j) (vector_at V k)

    pub secant-none : secant_below add mul V i j 0 ≡ []
    unfolding secant_below
    secant-none = ap (filter _) (join_below_none (λ k. k ∷ []))

    secant-more : (m : ℕ) → secant_below add mul V i j (m + 1) ≡ secant_below add mul V i j m ++ cond (on m) (m ∷ []) []
    unfolding secant_below on
    secant-more m = ap (filter on) (join_below_more m (λ k. k ∷ [])) ∙ filter-append on (list_below m (λ k. k)) (m ∷ [])

    pub secant-taken : (m : ℕ) → is_on_line add mul (vector_at V i) (vector_at V j) (vector_at V m) ≡ true → secant_below add mul V i j (m + 1) ≡ secant_below add mul V i j m ++ m ∷ []
    unfolding on
    secant-taken m e = secant-more m ∙ ap (λ t. secant_below add mul V i j m ++ cond t (m ∷ []) []) e

    pub secant-left : (m : ℕ) → is_on_line add mul (vector_at V i) (vector_at V j) (vector_at V m) ≡ false → secant_below add mul V i j (m + 1) ≡ secant_below add mul V i j m
    unfolding on
    secant-left m e = secant-more m ∙ ap (λ t. secant_below add mul V i j m ++ cond t (m ∷ []) []) e ∙ append-nil (secant_below add mul V i j m)

    few_on : (m : ℕ) → length (filter on (list_below m (λ k. k))) ≤ m
    few_on m = omega (arith, length-filter on (list_below m (λ k. k)), count_by-le-length on (list_below m (λ k. k)), length-list_below m (λ (k : ℕ). k))

    pub length-secant : (m : ℕ) → length (secant_below add mul V i j m) ≤ m
    unfolding secant_below on
    length-secant m = few_on m

    -- a third place before j on the line
    pub third_on : (m : ℕ) → m < j → j < length V → m ≢ i → is_on_line add mul (vector_at V i) (vector_at V j) (vector_at V m) ≡ true → are_least i j (secant add mul V i j) ≡ false
    unfolding secant_below on
    third_on m l h ne e = elim (cases_Bool (are_least i j (secant add mul V i j))) [
      | inr f ↦ f
      | inl f ↦
          let passes = each_at (λ z. (z == i || nat_le j z) ≡ true) m (secant add mul V i j) (recursion_from_All (λ z. (z == i || nat_le j z) ≡ true) _ (AllPass-from_list_all _ (secant add mul V i j) f)) (holds_filtered on (length V) m (omega arith) ∙ e) in
          elim (or_cases (m == i) (nat_le j m) passes) [
            | inl g ↦ absurd (ne (eqb-true m i g))
            | inr g ↦ absurd (omega (arith, leb-true j m g))
          ]
    ]

    pub first_from : ((k : ℕ) → k < j → k ≢ i → is_on_line add mul (vector_at V i) (vector_at V j) (vector_at V k) ≡ false) → are_least i j (secant add mul V i j) ≡ true
    unfolding secant_below on
    first_from h = list_all-from_AllPass _ (secant add mul V i j) (All-from_recursion (λ k. (k == i || nat_le j k) ≡ true) _ (all_filter (λ k. k < length V) (λ k. (k == i || nat_le j k) ≡ true) on (λ k l e. elim (cases_eq k i) [
      | inl s ↦ or_left _ _ (eq-eqb k i s)
      | inr ne ↦ elim (cases_lt k j) [
        | inl m ↦ absurd (false≢true (sym (h k m ne) ∙ e))
        | inr m ↦ or_right _ _ (le-leb j k m)
      ]
    ]) (list_below (length V) (λ k. k)) (each_below (λ k. k < length V) (length V) (λ k. k) (λ k l. l))))

pub ruleset secant_steps = (append-nil, append_assoc, secant-none, secant-taken, secant-left, least_lines-more, least_lines-none, lines_to-left, lines_to-none, lines_to-taken)
