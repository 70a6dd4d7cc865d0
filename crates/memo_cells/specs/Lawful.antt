-- Which words of a memo, and which knowledge of its passes, are lawful; and what a load tells.
use Rattle.std.specs.Prelude.{◌≡◌, ◌≢◌, ℕ, List, slice_index, true}
use Rattle.std.specs.List.{AllByRecursion}
use mathlib.Core.Option.{some}
use lib.ListN.{get_elem?}
use Rattle.design_base.specs.declared.query.Query.{Query}
use Rattle.design_base.specs.Cells.{cell_of}
use Rattle.design_base.specs.Limits.{in_bounds}
use Rattle.rule_table.specs.Asked.{asked}
use Rattle.rule_table.specs.Closure.{closure, cells_of}
use Rattle.rule_table.specs.Noted.{IsNoted, AreNotes}
use Rattle.rule_table.specs.Told.{Cells, Has}
use Rattle.memo_cells.specs.Knowledge.{Knowledge, loaded}

-- the word of the cell is not 0
abbrev pub IsFilled : List ℕ → ℕ → Type 0
IsFilled words i = slice_index words i ≢ 0

-- the cells of a set are filled
abbrev pub AreFilled : List ℕ → Cells → Type 0
AreFilled words known = (i : ℕ) → Has known i → IsFilled words i

-- the cells that any of the passes knows are filled; passes are counted from 0
abbrev pub AreKnown : List ℕ → List Knowledge → Type 0
AreKnown words views = (pass : ℕ) (v : Knowledge) → get_elem? views pass ≡ some v → AreFilled words v.known

-- the cells of the questions that the verdict of q itself asks for are filled
abbrev pub IsGrounded : List ℕ → Query → Type 0
IsGrounded words q = AllByRecursion (λ p. IsFilled words (cell_of p)) (asked q)

-- Three things make a memo lawful. Its words are notes: there is one for each cell, and it is 0 or the code of the verdict of the question in its cell. What
-- the passes know is filled. Where the cell of a question is filled, so are those of the questions that its verdict asks for.
pub record IsLawful (words : List ℕ) (views : List Knowledge) : Type 0 where
  pub notes : AreNotes words
  pub known : AreKnown words views
  pub grounded : (q : Query) → in_bounds q ≡ true → IsFilled words (cell_of q) → IsGrounded words q

-- no question whose cell is known has this cell in its closure
abbrev pub IsUnreached : Cells → ℕ → Type 0
IsUnreached known cell = (p : Query) → in_bounds p ≡ true → Has known (cell_of p) → ¬ Has (cells_of (closure p)) cell

-- What a load of a cell tells: the word that it found is 0, and then no known question leads to the cell, or it is the code of the verdict of the question
-- in the cell.
pub record Loads (cell : ℕ) (old : Knowledge) (found : ℕ) (new : Knowledge) : Type 0 where
  pub knowledge : new ≡ loaded old cell found
  pub noted : found ≢ 0 → IsNoted cell found
  pub unreached : found ≡ 0 → IsUnreached old.known cell
