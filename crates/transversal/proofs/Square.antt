-- Arrays with a row for each x and y.
use Rattle.std.proofs.Common.{List, [], ap₂, arith, get_or, length, subst, sym, ℕ, ◌&&◌, ◌<◌, ◌==◌, ◌∙◌, ◌∷◌, ◌≡◌, ◌≤◌}
use Rattle.std.proofs.lemmas.List.{get_or_default}
use Rattle.std.proofs.lemmas.List.Elements.{All-from_recursion}
use Rattle.std.specs.Prelude.{All}
use Rattle.counting.proofs.Booleans.{both_equal, both_equal-from}
use Rattle.counting.proofs.Counts.{grid_one, sum_below-same}
use Rattle.counting.proofs.Lists.{sum_by-join_below, sum_by-single}
use Rattle.counting.proofs.Ranges.{All-join_below, each_below}
use Rattle.counting.specs.Sums.{list_below, one, sum_below}
use Rattle.design_base.proofs.Rows.{agree-is, oa_from_pairs}
use Rattle.design_base.proofs.Solutions.{IsSolvable}
use Rattle.design_base.specs.Arrays.{IsOa, IsRow, agree}
use Rattle.transversal.specs.Constructions.{rows_below}

-- k entries below n
pub row_of_entries : (k n : ℕ) (row : List ℕ) → length row ≡ k → ((j : ℕ) → j < k → get_or row j 0 < n) → IsRow k n row
row_of_entries k n row size below = record {
  size = size;
  below = λ j d l. subst (λ a. a < n) (get_or_default row j 0 d l) (below j (omega (arith, size, l)));
}

-- the rows f x y, whose entries are e x y 0, e x y 1, ..
module _ (k n : ℕ) (f : ℕ → ℕ → List ℕ) (e : ℕ → ℕ → ℕ → ℕ) (size : (x y : ℕ) → length (f x y) ≡ k) (entry : (x y j : ℕ) → j < k → get_or (f x y) j 0 ≡ e x y j) where
  agree-rows_below : (i j a b : ℕ) → i < k → j < k → agree (rows_below n n f) i j a b ≡ sum_below n (λ x. sum_below n (λ y. one ((e x y i == a) && (e x y j == b))))
  unfolding rows_below
  agree-rows_below i j a b l h = agree-is (rows_below n n f) i j a b
      ∙ sum_by-join_below test n (λ x. list_below n (λ y. f x y))
      ∙ sum_below-same n _ (λ x. sum_below n (λ y. one ((e x y i == a) && (e x y j == b)))) (λ x lx. sum_by-join_below test n (λ y. f x y ∷ [])
      ∙ sum_below-same n _ (λ y. one ((e x y i == a) && (e x y j == b))) (λ y ly. sum_by-single test (f x y)
      ∙ ap₂ (λ u w. one ((u == a) && (w == b))) (entry x y i l) (entry x y j h)))
    where
      test : List ℕ → ℕ
      test r = one ((get_or r i 0 == a) && (get_or r j 0 == b))

  rows-rows_below : ((x y j : ℕ) → x < n → y < n → j < k → e x y j < n) → All (IsRow k n) (rows_below n n f)
  unfolding rows_below
  rows-rows_below small = All-join_below (IsRow k n) n _ (λ x lx. All-from_recursion (IsRow k n) _ (each_below (IsRow k n) n (λ y. f x y) (λ y ly.
      row_of_entries k n (f x y) (size x y) (λ j l. subst (λ a. a < n) (sym (entry x y j l)) (small x y j lx ly l)))))

  pub square_is_oa : 2 ≤ k → IsSolvable k n e → IsOa (rows_below n n f) k n
  square_is_oa two s = oa_from_pairs k n (rows_below n n f) two (rows-rows_below s.small) (λ i j a b l h la lb.
      let t = s.solves i j a b l h la lb in
      agree-rows_below i j a b (omega arith) h
      ∙ grid_one n n t.0 t.1 (λ x y. (e x y i == a) && (e x y j == b)) t.2 t.3 (both_equal-from _ _ a b t.4 t.5)
      (λ x y lx ly g. let f = both_equal (e x y i) (e x y j) a b g in s.unique i j x y t.0 t.1 l h lx ly t.2 t.3 (f.0 ∙ sym t.4) (f.1 ∙ sym t.5)))
