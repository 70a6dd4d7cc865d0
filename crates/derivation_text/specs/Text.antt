-- The text of a derivation, version 1.
use Rattle.std.specs.Prelude.{ℕ, ◌+◌, List, [], ◌∷◌, ◌++◌, codes, length, map}
use Rattle.std.specs.Fmt.{decimal}
use Rattle.derivations.specs.declared.line.Line.{Line}
use Rattle.design_lines.specs.Printed.{counted_line, line_of, question_words, step_words}

-- the numbers of the lines that a line names, where it names any
unfoldable pub from_words : List ℕ → List (List ℕ)
from_words [] = []
from_words (number ∷ numbers) = codes "from" ∷ map decimal (number ∷ numbers)

-- a line with its number
unfoldable pub numbered_line : ℕ → Line → List ℕ
numbered_line i l = line_of (decimal i ∷ (question_words l.query ++ step_words l.step ++ from_words l.from))

-- lines, numbered from i on
unfoldable pub numbered_lines : ℕ → List Line → List (List ℕ)
numbered_lines i [] = []
numbered_lines i (l ∷ lines) = numbered_line i l ∷ numbered_lines (i + 1) lines

-- the lines of the text
unfoldable pub derivation_lines : List Line → List (List ℕ)
derivation_lines D = counted_line (codes "derivation") 1 ∷ (numbered_lines 1 D ++ counted_line (codes "end") (length D) ∷ [])
