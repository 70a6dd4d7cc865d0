-- Block lines: the numbers of a block, as they are handed in.
use Rattle.std.specs.Prelude.{◌≡◌, ℕ, Bool, true, false, ◌&&◌, if◌then◌else◌, List, [], ◌∷◌, ◌++◌, length, Option, Some, None, option_and_then, option_map, IsSomeAnd}
use Rattle.std.specs.Str.Lines.{strip_carriage_return}
use Rattle.counting.specs.Search.{◌<=◌}
use Rattle.design_base.specs.declared.limits.TheConstants.{BLOCK_DIGITS_MAX}
use Rattle.design_lines.specs.Words.{value_of, words_of}

-- a number of one to five digits, leading zeros allowed, that is at most 65,535
abbrev pub small : Option ℕ → Option ℕ
small number = option_and_then (λ n. if n <= 65535 then Some n else None) number

unfoldable pub block_number : List ℕ → Option ℕ
block_number word = if 1 <= length word && length word <= BLOCK_DIGITS_MAX then small (value_of word) else None

-- a number in front of those of a row, where both are there
abbrev pub with_number : Option ℕ → Option (List ℕ) → Option (List ℕ)
with_number number numbers = option_and_then (λ n. option_map (λ row. n ∷ row) numbers) number

-- the numbers of the words, where each is one
unfoldable pub numbers_of : List (List ℕ) → Option (List ℕ)
numbers_of [] = Some []
numbers_of (word ∷ words) = with_number (block_number word) (numbers_of words)

-- the numbers of a block line, of which a blank line has none. One carriage return may be its last byte.
unfoldable pub block_line : List ℕ → Option (List ℕ)
block_line line = numbers_of (words_of (strip_carriage_return line))

abbrev pub is_row : List ℕ → Bool
is_row [] = false
is_row (x ∷ row) = true

-- a blank line adds no row
abbrev pub with_row : List (List ℕ) → List ℕ → List (List ℕ)
with_row rows [] = rows
with_row rows (x ∷ row) = rows ++ (x ∷ row) ∷ []

-- the line is a block line whose numbers were added as a row, or a blank line
abbrev pub AddsLine : List (List ℕ) → List (List ℕ) → List ℕ → Bool → Type 0
AddsLine old new line added = IsSomeAnd (block_line line) (λ row. (new ≡ with_row old row) × (added ≡ is_row row))
