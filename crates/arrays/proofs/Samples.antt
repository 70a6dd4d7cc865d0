-- A small array and two small squares, by computing.
use Rattle.std.proofs.Common.{Bool, List, [], arith, inl, inr, lit<, refl, suc, true, zero, ℕ, ◌&&◌, ◌<◌, ◌==◌, ◌∷◌, ◌≡◌}
use Rattle.counting.proofs.Booleans.{both, cases_eq, eqb-true}
use Rattle.std.proofs.lemmas.List.Elements.{All-from_recursion}
use Rattle.counting.specs.Sums.{one, sum_below}
use Rattle.design_base.specs.Arrays.{IsOa, IsRow, agree}
use Rattle.design_base.specs.Squares.{IsMols, cell}

-- each number below n passes
abbrev all_below : ℕ → (ℕ → Bool) → Bool
all_below zero p = true
all_below (suc n) p = p n && all_below n p

at : (n : ℕ) (p : ℕ → Bool) (i : ℕ) → all_below n p ≡ true → i < n → p i ≡ true
at zero p i e l = absurd (omega arith)
at (suc n) p i e l = let parts = both (p n) (all_below n p) e in elim (cases_eq i n) [
  | inl s ↦ rw s parts.0
  | inr ne ↦ at n p i parts.1 (omega arith)
]

three : (n a b c : ℕ) → a < n → b < n → c < n → IsRow 3 n (a ∷ b ∷ c ∷ [])
three n a b c l m h = record { size = refl; below = All-from_recursion (λ a. a < n) (a ∷ b ∷ c ∷ []) (l, (m, (h, tt))) }

abbrev four_rows : List (List ℕ)
four_rows = (0 ∷ 0 ∷ 0 ∷ []) ∷ (0 ∷ 1 ∷ 1 ∷ []) ∷ (1 ∷ 0 ∷ 1 ∷ []) ∷ (1 ∷ 1 ∷ 0 ∷ []) ∷ []

pub four_rows_array : IsOa ((0 ∷ 0 ∷ 0 ∷ []) ∷ (0 ∷ 1 ∷ 1 ∷ []) ∷ (1 ∷ 0 ∷ 1 ∷ []) ∷ (1 ∷ 1 ∷ 0 ∷ []) ∷ []) 3 2
unfolding agree
four_rows_array = record {
  count = refl;
  rows = All-from_recursion (IsRow 3 2) four_rows (three 2 0 0 0 (lit< tt) (lit< tt) (lit< tt), (three 2 0 1 1 (lit< tt) (lit< tt) (lit< tt), (three 2 1 0 1 (lit< tt) (lit< tt) (lit< tt), (three 2 1 1 0 (lit< tt) (lit< tt) (lit< tt), tt))));
  pairs = λ i j a b l m p q. eqb-true (agree four_rows i j a b) 1
      (at 2 (λ b. agree four_rows i j a b == 1) b
      (at 2 (λ a. all_below 2 (λ b. agree four_rows i j a b == 1)) a
      (at j (λ i. all_below 2 (λ a. all_below 2 (λ b. agree four_rows i j a b == 1))) i
      (at 3 (λ j. all_below j (λ i. all_below 2 (λ a. all_below 2 (λ b. agree four_rows i j a b == 1)))) j refl m) l) p) q);
}

abbrev six_rows : List (List ℕ)
six_rows = (0 ∷ 1 ∷ 2 ∷ []) ∷ (1 ∷ 2 ∷ 0 ∷ []) ∷ (2 ∷ 0 ∷ 1 ∷ []) ∷ (0 ∷ 1 ∷ 2 ∷ []) ∷ (2 ∷ 0 ∷ 1 ∷ []) ∷ (1 ∷ 2 ∷ 0 ∷ []) ∷ []

abbrev in_row : ℕ → ℕ → ℕ → Bool
in_row s x a = sum_below 3 (λ y. one (cell six_rows 3 s x y == a)) == 1

abbrev in_column : ℕ → ℕ → ℕ → Bool
in_column s y a = sum_below 3 (λ x. one (cell six_rows 3 s x y == a)) == 1

abbrev at_cell : ℕ → ℕ → ℕ → ℕ → Bool
at_cell s t a b = sum_below 3 (λ x. sum_below 3 (λ y. one ((cell six_rows 3 s x y == a) && (cell six_rows 3 t x y == b)))) == 1

pub six_rows_mols : IsMols ((0 ∷ 1 ∷ 2 ∷ []) ∷ (1 ∷ 2 ∷ 0 ∷ []) ∷ (2 ∷ 0 ∷ 1 ∷ []) ∷ (0 ∷ 1 ∷ 2 ∷ []) ∷ (2 ∷ 0 ∷ 1 ∷ []) ∷ (1 ∷ 2 ∷ 0 ∷ []) ∷ []) 3 2
unfolding sum_below one
six_rows_mols = record {
  count = refl;
  rows = All-from_recursion (IsRow 3 3) six_rows (three 3 0 1 2 (lit< tt) (lit< tt) (lit< tt), (three 3 1 2 0 (lit< tt) (lit< tt) (lit< tt), (three 3 2 0 1 (lit< tt) (lit< tt) (lit< tt), (three 3 0 1 2 (lit< tt) (lit< tt) (lit< tt), (three 3 2 0 1 (lit< tt) (lit< tt) (lit< tt), (three 3 1 2 0 (lit< tt) (lit< tt) (lit< tt), tt))))));
  in_rows = λ s x a l m h. eqb-true _ 1 (at 3 (in_row s x) a (at 3 (λ x. all_below 3 (in_row s x)) x (at 2 (λ s. all_below 3 (λ x. all_below 3 (in_row s x))) s refl l) m) h);
  in_columns = λ s y a l m h. eqb-true _ 1 (at 3 (in_column s y) a (at 3 (λ y. all_below 3 (in_column s y)) y (at 2 (λ s. all_below 3 (λ y. all_below 3 (in_column s y))) s refl l) m) h);
  orthogonal = λ s t a b l m h g. eqb-true _ 1 (at 3 (at_cell s t a) b (at 3 (λ a. all_below 3 (at_cell s t a)) a (at t (λ s. all_below 3 (λ a. all_below 3 (at_cell s t a))) s (at 2 (λ t. all_below t (λ s. all_below 3 (λ a. all_below 3 (at_cell s t a)))) t refl m) l) h) g);
}
