-- The rows and the squares of a transversal design.
use Rattle.std.proofs.Common.{List, [], ap, arith, get_or, length, refl, subst, sym, ℕ, ◌+◌, ◌-◌, ◌∙◌, ◌≡◌}
use Rattle.counting.proofs.Ranges.{join_below-same, length-list_below}
use Rattle.counting.specs.Sorting.{sort_by}
use Rattle.counting.specs.Sums.{join_below}
use Rattle.design_base.proofs.Groups.{oa_from_td}
use Rattle.design_base.specs.Arrays.{IsOa, rows_of_blocks}
use Rattle.design_base.specs.Blocks.{IsTd}
use Rattle.design_base.specs.Canonical.{lex_le}
use Rattle.design_base.specs.Squares.{IsMols}
use Rattle.arrays.specs.Arrays.{row_of_column, rows_of_td, square_of_column, squares_of_rows}
use Rattle.arrays.proofs.Bounds.{TdBounds}
use Rattle.arrays.proofs.Joined.{list_below-same}
use Rattle.arrays.proofs.Ordered.{by_cells, get_or-by_cells, sort_by-is}
use Rattle.arrays.proofs.Passages.{oa-sort_by}
use Rattle.arrays.proofs.Squares.{mols-squares_of_rows}

pub length-row_of_column : (n : ℕ) (R : List (List ℕ)) (j x : ℕ) → length (row_of_column n R j x) ≡ n
unfolding row_of_column
length-row_of_column n R j x = length-list_below n _

-- squares by the columns of the rows that are in order
squares_by_column : (m n : ℕ) (R : List (List ℕ)) → join_below m (λ s. square_of_column n (by_cells n R) (s + 2)) ≡ squares_of_rows m n R
unfolding squares_of_rows square_of_column row_of_column
squares_by_column m n R = join_below-same m _ _ (λ s l. list_below-same n _ _ (λ x h. list_below-same n _ _ (λ y g. ap (λ r. get_or r (s + 2) 0) (get_or-by_cells n R x y [] h g))))

-- the rows of the blocks, in order
pub rows_in_order : (n : ℕ) (B : List (List ℕ)) → sort_by lex_le (rows_of_blocks n B) ≡ rows_of_td n B
unfolding rows_of_td
rows_in_order n B = refl

module _ (k n : ℕ) (B : List (List ℕ)) (bounds : TdBounds k n) (td : IsTd B k n) where
  pub array : IsOa (rows_of_blocks n B) k n
  array = oa_from_td k n B bounds.positive td bounds.two

  in_order : by_cells n (rows_of_blocks n B) ≡ rows_of_td n B
  in_order = sym (sort_by-is k n (rows_of_blocks n B) array bounds.two bounds.positive) ∙ rows_in_order n B

  pub array_in_order : IsOa (rows_of_td n B) k n
  unfolding rows_of_td
  array_in_order = oa-sort_by k n (rows_of_blocks n B) array

  pub squares : join_below (k - 2) (λ s. square_of_column n (rows_of_td n B) (s + 2)) ≡ squares_of_rows (k - 2) n (rows_of_blocks n B)
  squares = ap (λ R. join_below (k - 2) (λ s. square_of_column n R (s + 2))) (sym in_order) ∙ squares_by_column (k - 2) n (rows_of_blocks n B)

  pub mols : IsMols (squares_of_rows (k - 2) n (rows_of_blocks n B)) n (k - 2)
  mols = mols-squares_of_rows (k - 2) n (rows_of_blocks n B) (subst (λ k. IsOa (rows_of_blocks n B) k n) columns array) bounds.positive
    where
      columns : k ≡ k - 2 + 2
      columns = omega (arith, bounds.two)
