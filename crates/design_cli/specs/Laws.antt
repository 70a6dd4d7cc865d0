-- What a check that finds no fault means, and what is printed of a transversal design.
use Rattle.std.specs.Prelude.{ℕ, ◌-◌, ◌≡◌, ◌↔◌, true, List}
use Rattle.arrays.specs.Arrays.{rows_of_td, squares_of_rows}
use Rattle.design_base.specs.Arrays.{IsOa, rows_of_blocks}
use Rattle.design_base.specs.Blocks.{IsTd}
use Rattle.design_base.specs.Limits.{in_bounds}
use Rattle.design_base.specs.Meets.{Meets}
use Rattle.design_base.specs.Squares.{IsMols}
use Rattle.design_base.specs.declared.query.Query.{Query}
use Rattle.design_base.specs.declared.query.Query.TheVariants.{Td}
use Rattle.design_checks.specs.Findings.{finding}
use Rattle.design_checks.specs.declared.finding.Finding.TheVariants.{Valid}
use Rattle.design_lines.specs.declared.command.Shape.TheVariants.{Rows, Squares}
use Rattle.design_cli.specs.LineFindings.{lines_finding}

-- blocks are found valid exactly where they are such a design
abbrev pub ValidLaw : Type 0
ValidLaw = (q : Query) (B : List (List ℕ)) → (finding q B ≡ Valid) ↔ Meets q B

-- rows are found valid exactly where they are an orthogonal array
abbrev pub ValidRowsLaw : Type 0
ValidRowsLaw = (k n : ℕ) → in_bounds (Td k n) ≡ true → (R : List (List ℕ)) → (lines_finding (Td k n) Rows R ≡ Valid) ↔ IsOa R k n

-- squares are found valid exactly where they are mutually orthogonal Latin squares
abbrev pub ValidSquaresLaw : Type 0
ValidSquaresLaw = (k n : ℕ) → in_bounds (Td k n) ≡ true → (L : List (List ℕ)) → (lines_finding (Td k n) Squares L ≡ Valid) ↔ IsMols L n (k - 2)

-- the rows that are printed of a transversal design are an orthogonal array
abbrev pub PrintedRowsLaw : Type 0
PrintedRowsLaw = (k n : ℕ) → in_bounds (Td k n) ≡ true → (B : List (List ℕ)) → IsTd B k n → IsOa (rows_of_td n B) k n

-- and the squares are mutually orthogonal Latin squares
abbrev pub PrintedSquaresLaw : Type 0
PrintedSquaresLaw = (k n : ℕ) → in_bounds (Td k n) ≡ true → (B : List (List ℕ)) → IsTd B k n → IsMols (squares_of_rows (k - 2) n (rows_of_blocks n B)) n (k - 2)
