-- How rows are packed: their numbers one after another, and where each row ends.
use Rattle.std.specs.Prelude.{List, [], length, slice_range, sum_by, ℕ, ◌+◌, ◌∷◌, ◌≡◌, ◌≤◌}

-- the rows whose numbers stand from a place on
abbrev pub rows_from : ℕ → List ℕ → List ℕ → List (List ℕ)
rows_from start [] numbers = []
rows_from start (end ∷ ends) numbers = slice_range numbers start end ∷ rows_from end ends numbers

-- each row ends at its start or after it, and the last one where the numbers do
abbrev pub AreEnds : ℕ → List ℕ → ℕ → Type 0
AreEnds start [] total = start ≡ total
AreEnds start (end ∷ ends) total = (start ≤ end) × AreEnds end ends total

-- the rows and the numbers in them, together
abbrev pub size_of : List (List ℕ) → ℕ
size_of rows = length rows + sum_by length rows
