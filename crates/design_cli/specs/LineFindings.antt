-- What the check of the lines of an input finds: of blocks, of the rows of an orthogonal array, or of Latin squares.
use Rattle.std.specs.Prelude.{ℕ, ◌-◌, ◌≡◌, nat_le, List, map, Option, Some, None, Result, Ok, Err}
use Rattle.counting.specs.Sorting.{sort_by}
use Rattle.design_base.specs.Arrays.{blocks_of_rows}
use Rattle.design_base.specs.Canonical.{canonical}
use Rattle.design_base.specs.declared.query.Query.{Query}
use Rattle.design_base.specs.declared.query.Query.TheVariants.{Td}
use Rattle.arrays.specs.Arrays.{rows_of_squares}
use Rattle.arrays.specs.Lines.{bad_line, bad_row}
use Rattle.arrays.specs.declared.end.ArrayEnd.{ArrayEnd}
use Rattle.arrays.specs.declared.end.ArrayEnd.TheVariants.{BadLine, Memory}
use Rattle.design_checks.specs.Findings.{finding}
use Rattle.design_checks.specs.declared.finding.Finding.{Finding}
use Rattle.design_checks.specs.declared.finding.Finding.TheVariants.{BadBlock}
use Rattle.design_lines.specs.declared.command.Shape.{Shape}
use Rattle.design_lines.specs.declared.command.Shape.TheVariants.{Blocks, Rows, Squares}
use Rattle.design_cli.specs.declared.checking.TheConstants.{SHORTEST_BLOCK}

-- what is read of an input: a block has two points at least, and so has a row two symbols, but squares of order 1 have
-- lines of one
abbrev pub shortest_line : Shape → ℕ
shortest_line Blocks = SHORTEST_BLOCK
shortest_line Rows = SHORTEST_BLOCK
shortest_line Squares = 0

-- the first bad line, or else what is found of the blocks that the lines stand for
abbrev pub line_finding : Option ℕ → Finding → Finding
line_finding (Some index) found = BadBlock index
line_finding None found = found

-- this is found of blocks that lines stand for, or of a bad line
abbrev pub IsFoundIn : Query → Result (List (List ℕ)) ArrayEnd → Finding → Type 0
IsFoundIn q (Ok B) found = found ≡ finding q B
IsFoundIn q (Err (BadLine index)) found = found ≡ BadBlock index
IsFoundIn q (Err Memory) found = ⊥

-- the lines in the shape that is asked for; the points of a block may stand in any order
abbrev pub lines_finding : Query → Shape → List (List ℕ) → Finding
lines_finding (Td k n) Rows L = line_finding (bad_row k n L) (finding (Td k n) (canonical (blocks_of_rows k n L)))
lines_finding (Td k n) Squares L = line_finding (bad_line (k - 2) n L) (finding (Td k n) (canonical (blocks_of_rows k n (rows_of_squares (k - 2) n L))))
lines_finding q shape L = finding q (map (sort_by nat_le) L)
