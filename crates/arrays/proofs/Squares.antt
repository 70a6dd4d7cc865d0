-- The rows of squares are an orthogonal array exactly where the squares are orthogonal Latin squares.
use Rattle.std.proofs.Common.{List, [], ap, ap₂, arith, get_or, length, refl, subst, suc, sym, zero, ℕ, ◌&&◌, ◌*◌, ◌+◌, ◌<◌, ◌==◌, ◌∙◌, ◌∷◌, ◌≡◌, ◌↔◌}
use Rattle.counting.proofs.Booleans.{both_equal, both_equal-from, eq-eqb}
use Rattle.std.proofs.lemmas.Grind.{same_number_lists}
use Rattle.std.proofs.lemmas.List.Elements.{All-from_recursion}
use Rattle.std.proofs.lemmas.Nat.{mul-add-lt}
use Rattle.std.specs.Prelude.{All}
use Rattle.counting.proofs.Counts.{grid_one, one-false, sum_below-at, sum_below-same, sum_below-zero}
use Rattle.counting.proofs.Lists.{sum_by-join_below, sum_by-single}
use Rattle.counting.proofs.Ranges.{All-join_below, each_below, get_or-list_below, join_below-same, length-list_below}
use Rattle.counting.specs.Sums.{list_below, one, sum_below}
use Rattle.design_base.proofs.Rows.{agree-is, oa_from_pairs}
use Rattle.design_base.specs.Arrays.{IsOa, IsRow, agree, blocks_of_rows}
use Rattle.design_base.specs.Blocks.{IsTd}
use Rattle.design_base.specs.Canonical.{canonical}
use Rattle.design_base.specs.Squares.{IsMols, cell}
use Rattle.arrays.specs.Arrays.{row_at, row_of_cell, rows_of_squares, squares_of_rows}
use Rattle.arrays.proofs.Cells.{row_at-begins, row_at_row}
use Rattle.arrays.proofs.Joined.{get_or-join_below, length-join_below, list_below-same}
use Rattle.arrays.proofs.Ordered.{by_cells, sort_by-is}
use Rattle.arrays.proofs.Passages.{oa-sort_by, td_iff_oa}

-- the number in column j of the row of line x and column y
entry : List (List ℕ) → ℕ → ℕ → ℕ → ℕ → ℕ
entry L n x y zero = x
entry L n x y (suc zero) = y
entry L n x y (suc (suc s)) = cell L n s x y

-- at how many cells a and b stand in columns i and j
grid : List (List ℕ) → ℕ → ℕ → ℕ → ℕ → ℕ → ℕ
grid L n i j a b = sum_below n (λ x. sum_below n (λ y. one ((entry L n x y i == a) && (entry L n x y j == b))))

pub length-row_of_cell : (m n : ℕ) (L : List (List ℕ)) (x y : ℕ) → length (row_of_cell m n L x y) ≡ m + 2
length-row_of_cell m n L x y = omega (arith, length-list_below m (λ s. cell L n s x y))

get_or-row_of_cell : (m n : ℕ) (L : List (List ℕ)) (x y j : ℕ) → j < m + 2 → get_or (row_of_cell m n L x y) j 0 ≡ entry L n x y j
unfolding entry
get_or-row_of_cell m n L x y zero l = refl
get_or-row_of_cell m n L x y (suc zero) l = refl
get_or-row_of_cell m n L x y (suc (suc s)) l = get_or-list_below m (λ s. cell L n s x y) s 0 (omega arith)

agree-rows_of_squares : (m n : ℕ) (L : List (List ℕ)) (i j a b : ℕ) → i < m + 2 → j < m + 2 → agree (rows_of_squares m n L) i j a b ≡ grid L n i j a b
unfolding rows_of_squares grid
agree-rows_of_squares m n L i j a b l h = agree-is (rows_of_squares m n L) i j a b
    ∙ sum_by-join_below test n (λ x. list_below n (row_of_cell m n L x))
    ∙ sum_below-same n _ (λ x. sum_below n (λ y. one ((entry L n x y i == a) && (entry L n x y j == b)))) (λ x lx. sum_by-join_below test n (λ y. row_of_cell m n L x y ∷ [])
    ∙ sum_below-same n _ (λ y. one ((entry L n x y i == a) && (entry L n x y j == b))) (λ y ly. sum_by-single test (row_of_cell m n L x y)
    ∙ ap₂ (λ u w. one ((u == a) && (w == b))) (get_or-row_of_cell m n L x y i l) (get_or-row_of_cell m n L x y j h)))
  where
    test : List ℕ → ℕ
    test r = one ((get_or r i 0 == a) && (get_or r j 0 == b))

-- what the pairs of columns count
grid-cell : (n : ℕ) (L : List (List ℕ)) (a b : ℕ) → a < n → b < n → grid L n 0 1 a b ≡ 1
unfolding grid entry
grid-cell n L a b la lb = grid_one n n a b (λ x y. (x == a) && (y == b)) la lb (both_equal-from a b a b refl refl) (λ x y lx ly e. both_equal x y a b e)

grid-line : (n : ℕ) (L : List (List ℕ)) (s x a : ℕ) → x < n → grid L n 0 (suc (suc s)) x a ≡ sum_below n (λ y. one (cell L n s x y == a))
unfolding grid entry
grid-line n L s x a l = sum_below-at n x _ l (λ z lz ne. sum_below-zero n _ (λ y ly. one-false _ (λ e. ne (both_equal z (cell L n s z y) x a e).0)))
    ∙ sum_below-same n _ (λ y. one (cell L n s x y == a)) (λ y ly. ap (λ t. one (t && (cell L n s x y == a))) (eq-eqb x x refl))

grid-column : (n : ℕ) (L : List (List ℕ)) (s y a : ℕ) → y < n → grid L n 1 (suc (suc s)) y a ≡ sum_below n (λ x. one (cell L n s x y == a))
unfolding grid entry
grid-column n L s y a l = sum_below-same n _ (λ x. one (cell L n s x y == a)) (λ x lx.
    sum_below-at n y _ l (λ z lz ne. one-false _ (λ e. ne (both_equal z (cell L n s x z) y a e).0)) ∙ ap (λ t. one (t && (cell L n s x y == a))) (eq-eqb y y refl))

grid-squares : (n : ℕ) (L : List (List ℕ)) (s t a b : ℕ) → grid L n (suc (suc s)) (suc (suc t)) a b ≡ sum_below n (λ x. sum_below n (λ y. one ((cell L n s x y == a) && (cell L n t x y == b))))
unfolding grid entry
grid-squares n L s t a b = refl

module _ (m n : ℕ) (L : List (List ℕ)) (count : length L ≡ m * n) (lines : All (IsRow n n) L) where
  cell-below : (s x y : ℕ) → s < m → x < n → y < n → cell L n s x y < n
  cell-below s x y l h g = let r = lines (s * n + x) [] (omega (arith, count, mul-add-lt s n x m l h)) in r.below y 0 (omega (arith, r.size))

  rows-rows_of_squares : All (IsRow (m + 2) n) (rows_of_squares m n L)
  unfolding rows_of_squares
  rows-rows_of_squares = All-join_below (IsRow (m + 2) n) n _ (λ x l. All-from_recursion (IsRow (m + 2) n) _ (each_below (IsRow (m + 2) n) n (row_of_cell m n L x) (λ y h. record {
    size = omega (arith, length-list_below m (λ s. cell L n s x y));
    below = All-from_recursion (λ a. a < n) (row_of_cell m n L x y) (l, (h, each_below (λ a. a < n) m (λ s. cell L n s x y) (λ s g. cell-below s x y g l h)));
  })))

  oa_from_mols : IsMols L n m → IsOa (rows_of_squares m n L) (m + 2) n
  oa_from_mols mols = oa_from_pairs (m + 2) n (rows_of_squares m n L) (omega arith) rows-rows_of_squares
      (λ i j a b l h la lb. agree-rows_of_squares m n L i j a b (omega arith) h ∙ on_grid i j a b l h la lb)
    where
      on_grid : (i j a b : ℕ) → i < j → j < m + 2 → a < n → b < n → grid L n i j a b ≡ 1
      on_grid zero (suc zero) a b l h la lb = grid-cell n L a b la lb
      on_grid zero (suc (suc s)) a b l h la lb = grid-line n L s a b la ∙ mols.in_rows s a b (omega arith) la lb
      on_grid (suc zero) (suc (suc s)) a b l h la lb = grid-column n L s a b la ∙ mols.in_columns s a b (omega arith) la lb
      on_grid (suc (suc s)) (suc (suc t)) a b l h la lb = grid-squares n L s t a b ∙ mols.orthogonal s t a b (omega arith) (omega arith) la lb
      on_grid (suc i) (suc zero) a b l h la lb = absurd (omega arith)
      on_grid i zero a b l h la lb = absurd (omega arith)

  mols_from_oa : IsOa (rows_of_squares m n L) (m + 2) n → IsMols L n m
  mols_from_oa oa = record {
    count = count;
    rows = lines;
    in_rows = λ s x a l lx la. sym (grid-line n L s x a lx) ∙ on_grid 0 (suc (suc s)) x a (omega arith) (omega arith) lx la;
    in_columns = λ s y a l ly la. sym (grid-column n L s y a ly) ∙ on_grid 1 (suc (suc s)) y a (omega arith) (omega arith) ly la;
    orthogonal = λ s t a b l h la lb. sym (grid-squares n L s t a b) ∙ on_grid (suc (suc s)) (suc (suc t)) a b (omega arith) (omega arith) la lb;
  }
    where
      on_grid : (i j a b : ℕ) → i < j → j < m + 2 → a < n → b < n → grid L n i j a b ≡ 1
      on_grid i j a b l h la lb = sym (agree-rows_of_squares m n L i j a b (omega arith) h) ∙ oa.pairs i j a b l h la lb

  pub oa_iff_mols : IsOa (rows_of_squares m n L) (m + 2) n ↔ IsMols L n m
  oa_iff_mols = (mols_from_oa, oa_from_mols)

-- the blocks of the rows are a transversal design exactly where the squares are orthogonal Latin squares
module _ (k m n : ℕ) (L : List (List ℕ)) (columns : k ≡ m + 2) (count : length L ≡ m * n) (lines : All (IsRow n n) L) where
  pub rows_are : All (IsRow k n) (rows_of_squares m n L)
  rows_are = subst (λ k. All (IsRow k n) (rows_of_squares m n L)) (sym columns) (rows-rows_of_squares m n L count lines)

  pub td_iff_mols : 0 < n → IsTd (canonical (blocks_of_rows k n (rows_of_squares m n L))) k n ↔ IsMols L n m
  td_iff_mols pos =
      let by_rows = td_iff_oa k n (rows_of_squares m n L) rows_are (omega (arith, columns)) pos in
      let by_squares = oa_iff_mols m n L count lines in
      (λ td. by_squares.0 (subst (λ k. IsOa (rows_of_squares m n L) k n) columns (by_rows.0 td)), λ mols. by_rows.1 (subst (λ k. IsOa (rows_of_squares m n L) k n) (sym columns) (by_squares.1 mols)))

-- ---- the squares of an orthogonal array
module _ (m n : ℕ) (R : List (List ℕ)) (oa : IsOa R (m + 2) n) where
  line : ℕ → ℕ → List ℕ
  line s x = list_below n (λ y. get_or (row_at R x y) (s + 2) 0)

  row : (x y : ℕ) → x < n → y < n → IsRow (m + 2) n (row_at R x y)
  row x y l h = row_at_row (m + 2) n R oa (omega arith) x y l h

  length-squares_of_rows : length (squares_of_rows m n R) ≡ m * n
  unfolding squares_of_rows
  length-squares_of_rows = length-join_below m n _ (λ s l. length-list_below n _)

  lines-squares_of_rows : All (IsRow n n) (squares_of_rows m n R)
  unfolding squares_of_rows
  lines-squares_of_rows = All-join_below (IsRow n n) m _ (λ s l. All-from_recursion (IsRow n n) _ (each_below (IsRow n n) n _ (λ x h. record {
    size = length-list_below n (λ y. get_or (row_at R x y) (s + 2) 0);
    below = All-from_recursion (λ a. a < n) _ (each_below (λ a. a < n) n (λ y. get_or (row_at R x y) (s + 2) 0) (λ y i. (row x y h i).below (s + 2) 0 (omega (arith, (row x y h i).size))));
  })))

  cell-squares_of_rows : (s x y : ℕ) → s < m → x < n → y < n → cell (squares_of_rows m n R) n s x y ≡ get_or (row_at R x y) (s + 2) 0
  unfolding squares_of_rows line
  cell-squares_of_rows s x y l lx ly = ap (λ r. get_or r y 0) (get_or-join_below m n s x (λ s. list_below n (line s)) [] (λ s l. length-list_below n (line s)) l lx ∙ get_or-list_below n (line s) x [] lx) ∙ get_or-list_below n (λ y. get_or (row_at R x y) (s + 2) 0) y 0 ly

  row_of_cell-is : (x y : ℕ) → x < n → y < n → row_of_cell m n (squares_of_rows m n R) x y ≡ row_at R x y
  unfolding entry
  row_of_cell-is x y l h = same_number_lists _ _ (omega (arith, length-list_below m (λ s. cell (squares_of_rows m n R) n s x y), (row x y l h).size)) (λ j g.
      let b : j < m + 2 = omega (arith, length-list_below m (λ s. cell (squares_of_rows m n R) n s x y)) in
      get_or-row_of_cell m n (squares_of_rows m n R) x y j b ∙ by_column j b)
    where
      by_column : (j : ℕ) → j < m + 2 → entry (squares_of_rows m n R) n x y j ≡ get_or (row_at R x y) j 0
      by_column zero b = sym (row_at-begins (m + 2) n R oa (omega arith) x y l h).0
      by_column (suc zero) b = sym (row_at-begins (m + 2) n R oa (omega arith) x y l h).1
      by_column (suc (suc s)) b = cell-squares_of_rows s x y (omega arith) l h ∙ ap (λ j. get_or (row_at R x y) j 0) (omega arith)

  -- the rows of its squares are its rows, by their cells
  pub rows_of_squares_of_rows : rows_of_squares m n (squares_of_rows m n R) ≡ by_cells n R
  unfolding rows_of_squares by_cells
  rows_of_squares_of_rows = join_below-same n _ _ (λ x l. list_below-same n _ _ (λ y h. row_of_cell-is x y l h))

  pub mols-squares_of_rows : 0 < n → IsMols (squares_of_rows m n R) n m
  mols-squares_of_rows pos = mols_from_oa m n (squares_of_rows m n R) length-squares_of_rows lines-squares_of_rows
      (subst (λ S. IsOa S (m + 2) n) (sort_by-is (m + 2) n R oa (omega arith) pos ∙ sym rows_of_squares_of_rows) (oa-sort_by (m + 2) n R oa))
