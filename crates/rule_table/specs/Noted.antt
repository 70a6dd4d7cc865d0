-- Words by cells: the cells whose word is not 0, and the verdicts that words are codes of.
use Rattle.std.specs.Prelude.{◌≡◌, ◌≢◌, ℕ, List, [], ◌∷◌, cond, nat_eq, length, slice_index, true, Some}
use Rattle.std.proofs.Common.{suc}
use Rattle.std.specs.FinSet as set
use Rattle.design_base.specs.declared.cells.TheConstants.{CELLS}
use Rattle.design_base.specs.declared.query.Query.{Query}
use Rattle.design_base.specs.Cells.{cell_of}
use Rattle.design_base.specs.Codes.{read_code}
use Rattle.design_base.specs.Limits.{in_bounds}
use Rattle.rule_table.specs.Told.{Cells}
use Rattle.rule_table.specs.Verdicts.{verdict}

-- the places, counted from i, whose word is not 0
unfoldable pub noted_from : ℕ → List ℕ → Cells
noted_from i [] = set.empty
noted_from i (w ∷ ws) = cond (nat_eq w 0) (noted_from (suc i) ws) (set.insert (noted_from (suc i) ws) i)

unfoldable pub noted : List ℕ → Cells
noted ws = noted_from 0 ws

-- the word is the code of the verdict of the question in this cell
pub record IsNoted (i w : ℕ) : Type 0 where
  pub question : Query
  pub bounds : in_bounds question ≡ true
  pub cell : cell_of question ≡ i
  pub word : read_code w ≡ Some (verdict question)

-- a word for each cell: 0 or the code of the verdict of its question
pub record AreNotes (words : List ℕ) : Type 0 where
  pub count : length words ≡ CELLS
  pub verdicts : (i : ℕ) → slice_index words i ≢ 0 → IsNoted i (slice_index words i)

-- a word for each cell, and how many are not 0
pub record AreMarks (words : List ℕ) (marked : ℕ) : Type 0 where
  pub cells : length words ≡ CELLS
  pub count : marked ≡ set.len (noted words)
