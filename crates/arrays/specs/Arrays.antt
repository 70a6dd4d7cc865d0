-- The rows and the squares of a transversal design, and back.
use Rattle.std.specs.Prelude.{ℕ, ◌+◌, ◌*◌, ◌==◌, ◌&&◌, Bool, List, [], ◌∷◌, slice_index, slice_index_or}
use Rattle.std.specs.List.{position_or_len}
use Rattle.counting.specs.Sums.{join_below, list_below}
use Rattle.counting.specs.Sorting.{sort_by}
use Rattle.design_base.specs.Arrays.{rows_of_blocks}
use Rattle.design_base.specs.Canonical.{lex_le}
use Rattle.design_base.specs.Squares.{cell}

-- the rows of the blocks, in lexicographic order
unfoldable pub rows_of_td : ℕ → List (List ℕ) → List (List ℕ)
rows_of_td n B = sort_by lex_le (rows_of_blocks n B)

-- the row has x in column 0 and y in column 1
abbrev pub begins_with : ℕ → ℕ → List ℕ → Bool
begins_with x y row = (slice_index row 0 == x) && (slice_index row 1 == y)

-- where the first row that begins with x and y stands
unfoldable pub place_at : List (List ℕ) → ℕ → ℕ → ℕ
place_at R x y = position_or_len (begins_with x y) R

-- this row
unfoldable pub row_at : List (List ℕ) → ℕ → ℕ → List ℕ
row_at R x y = slice_index_or R (place_at R x y) []

-- m squares of order n, one below the other: in row x and column y of square s stands the symbol in column s + 2 of the
-- row that begins with x and y
unfoldable pub squares_of_rows : ℕ → ℕ → List (List ℕ) → List (List ℕ)
squares_of_rows m n R = join_below m (λ s. list_below n (λ x. list_below n (λ y. slice_index (row_at R x y) (s + 2))))

-- the row of cell x, y: these two, and the symbols that the m squares of order n have in row x and column y
abbrev pub row_of_cell : ℕ → ℕ → List (List ℕ) → ℕ → ℕ → List ℕ
row_of_cell m n L x y = x ∷ y ∷ list_below m (λ s. cell L n s x y)

-- the rows of all cells of m squares of order n
unfoldable pub rows_of_squares : ℕ → ℕ → List (List ℕ) → List (List ℕ)
rows_of_squares m n L = join_below n (λ x. list_below n (row_of_cell m n L x))

-- ---- what stands in the builders' own contracts

-- the symbols in column j of the rows x * n, x * n + 1, .., n of them
unfoldable pub row_of_column : ℕ → List (List ℕ) → ℕ → ℕ → List ℕ
row_of_column n R j x = list_below n (λ y. slice_index (slice_index_or R (x * n + y) []) j)

-- these rows for x = 0, 1, .., n of them
unfoldable pub square_of_column : ℕ → List (List ℕ) → ℕ → List (List ℕ)
square_of_column n R j = list_below n (row_of_column n R j)
