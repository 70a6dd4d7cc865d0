-- The blocks of a design, as they are written: a block a line, the rows of an orthogonal array, or Latin squares.
use Rattle.std.specs.Prelude.{ℕ, ◌+◌, ◌-◌, ◌*◌, ◌≡◌, ◌≤◌, All, List, ◌∷◌, length, map, codes, slice_range}
use Rattle.counting.specs.Sums.{join_below}
use Rattle.design_base.specs.Arrays.{rows_of_blocks}
use Rattle.design_base.specs.declared.limits.TheConstants.{POINTS_MAX}
use Rattle.design_base.specs.declared.query.Query.{Query}
use Rattle.design_base.specs.declared.query.Query.TheVariants.{Td}
use Rattle.arrays.specs.Arrays.{rows_of_td, squares_of_rows}
use Rattle.design_lines.specs.declared.command.Shape.{Shape}
use Rattle.design_lines.specs.declared.command.Shape.TheVariants.{Rows as AsRows, Squares as AsSquares}
use Rattle.design_lines.specs.Printed.{counted_line}
use Rattle.design_reports.specs.Texts.{row_line}
use Rattle.design_reports.specs.declared.parts.Part.{Part}
use Rattle.design_reports.specs.declared.parts.Part.TheVariants.{Blocks, Rows, Squares}

-- the blocks in the shape that is asked for; only a transversal design has rows and squares
abbrev pub part_of : Query → Shape → List (List ℕ) → Part
part_of (Td k n) AsRows B = Rows (rows_of_td n B)
part_of (Td k n) AsSquares B = Squares (k - 2) n (squares_of_rows (k - 2) n (rows_of_blocks n B))
part_of q shape B = Blocks B

-- square s of those that stand one below the other, by its number
unfoldable pub square_lines : ℕ → List (List ℕ) → ℕ → List (List ℕ)
square_lines n L s = counted_line (codes "square") (s + 1) ∷ map row_line (slice_range L (s * n) (s * n + n))

-- the lines of a part
unfoldable pub part_lines : Part → List (List ℕ)
part_lines (Blocks B) = counted_line (codes "blocks") (length B) ∷ map row_line B
part_lines (Rows R) = counted_line (codes "rows") (length R) ∷ map row_line R
part_lines (Squares m n L) = join_below m (square_lines n L)

-- no row is longer than a line has room for, and squares have all their lines
abbrev pub IsPrintable : Part → Type 0
IsPrintable (Blocks B) = All (λ row. length row ≤ POINTS_MAX) B
IsPrintable (Rows R) = All (λ row. length row ≤ POINTS_MAX) R
IsPrintable (Squares m n L) = (length L ≡ m * n) × All (λ row. length row ≤ POINTS_MAX) L
