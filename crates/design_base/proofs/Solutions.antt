-- Arrays whose rows are given by two numbers x and y, as those of a plane over a field.
use Rattle.std.proofs.Common.{List, [], ap₂, arith, get_or, sym, ℕ, ◌&&◌, ◌<◌, ◌==◌, ◌∙◌, ◌∷◌, ◌≡◌, ◌≤◌}
use Rattle.std.proofs.lemmas.List.Elements.{All-from_recursion}
use Rattle.std.specs.Prelude.{All}
use Rattle.counting.proofs.Booleans.{both_equal, both_equal-from}
use Rattle.counting.proofs.Counts.{grid_one, sum_below-same}
use Rattle.counting.proofs.Lists.{sum_by-join_below, sum_by-single}
use Rattle.counting.proofs.Ranges.{All-join_below, each_below, get_or-list_below, length-list_below}
use Rattle.counting.specs.Sums.{join_below, list_below, one, sum_below}
use Rattle.design_base.proofs.Rows.{agree-is, oa_from_pairs}
use Rattle.design_base.specs.Arrays.{IsOa, IsRow, agree}

-- the rows (e x y 0, e x y 1, ..) for x, y below n
pub grid_rows : ℕ → ℕ → (ℕ → ℕ → ℕ → ℕ) → List (List ℕ)
grid_rows k n e = join_below n (λ x. list_below n (λ y. list_below k (λ j. e x y j)))

-- for two columns each pair of symbols is given by exactly one x and y
pub record IsSolvable (k n : ℕ) (e : ℕ → ℕ → ℕ → ℕ) : Type 0 where
  pub small : (x y j : ℕ) → x < n → y < n → j < k → e x y j < n
  pub solves : (i j a b : ℕ) → i < j → j < k → a < n → b < n → (x : ℕ) × (y : ℕ) × (x < n) × (y < n) × (e x y i ≡ a) × (e x y j ≡ b)
  pub unique : (i j x y z w : ℕ) → i < j → j < k → x < n → y < n → z < n → w < n → e x y i ≡ e z w i → e x y j ≡ e z w j → (x ≡ z) × (y ≡ w)

-- the agreements of such rows are counted over the grid
pub agree_grid : (k n : ℕ) (e : ℕ → ℕ → ℕ → ℕ) (i j a b : ℕ) → i < k → j < k → agree (grid_rows k n e) i j a b ≡ sum_below n (λ x. sum_below n (λ y. one ((e x y i == a) && (e x y j == b))))
unfolding grid_rows
agree_grid k n e i j a b l h = agree-is (grid_rows k n e) i j a b
    ∙ sum_by-join_below test n (λ x. list_below n (row x))
    ∙ sum_below-same n _ (λ x. sum_below n (λ y. one ((e x y i == a) && (e x y j == b)))) (λ x lx. sum_by-join_below test n (λ y. row x y ∷ [])
    ∙ sum_below-same n _ (λ y. one ((e x y i == a) && (e x y j == b))) (λ y ly. sum_by-single test (row x y)
    ∙ ap₂ (λ u w. one ((u == a) && (w == b))) (get_or-list_below k (λ j. e x y j) i 0 l) (get_or-list_below k (λ j. e x y j) j 0 h)))
  where
    row : ℕ → ℕ → List ℕ
    row x y = list_below k (λ j. e x y j)

    test : List ℕ → ℕ
    test r = one ((get_or r i 0 == a) && (get_or r j 0 == b))

pub rows_of_grid : (k n : ℕ) (e : ℕ → ℕ → ℕ → ℕ) → ((x y j : ℕ) → x < n → y < n → j < k → e x y j < n) → All (IsRow k n) (grid_rows k n e)
unfolding grid_rows
rows_of_grid k n e small = All-join_below (IsRow k n) n _ (λ x l. All-from_recursion (IsRow k n) _ (each_below (IsRow k n) n (λ y. list_below k (λ j. e x y j)) (λ y m. record {
  size = length-list_below k (λ j. e x y j);
  below = All-from_recursion (λ a. a < n) _ (each_below (λ a. a < n) k (λ j. e x y j) (λ j h. small x y j l m h));
})))

pub grid_is_oa : (k n : ℕ) (e : ℕ → ℕ → ℕ → ℕ) → 2 ≤ k → IsSolvable k n e → IsOa (grid_rows k n e) k n
grid_is_oa k n e two s = oa_from_pairs k n (grid_rows k n e) two (rows_of_grid k n e s.small) (λ i j a b l h la lb.
    let t = s.solves i j a b l h la lb in
    agree_grid k n e i j a b (omega arith) h
    ∙ grid_one n n t.0 t.1 (λ x y. (e x y i == a) && (e x y j == b)) t.2 t.3 (both_equal-from _ _ a b t.4 t.5)
    (λ x y lx ly g. let f = both_equal (e x y i) (e x y j) a b g in s.unique i j x y t.0 t.1 l h lx ly t.2 t.3 (f.0 ∙ sym t.4) (f.1 ∙ sym t.5)))
