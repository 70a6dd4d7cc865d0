-- What stands at the front of a text: blanks, digits, the end of a line, and the first line.
use Rattle.std.specs.Prelude.{◌≡◌, ℕ, ◌+◌, ◌≤◌, ◌==◌, Bool, if◌then◌else◌, List, [], ◌∷◌, drop, length, Option, Some, None}
use Rattle.std.specs.Char.{is_ascii_digit}
use Rattle.std.specs.List.{prefix_len, take_while}
use Rattle.design_lines.specs.Words.{is_blank}
use Rattle.block_texts.specs.BlockLines.{block_line}
use Rattle.block_texts.specs.BlockText.{is_feed, lines_of}

-- what stands behind the bytes at the front that pass
abbrev pub behind_all : (ℕ → Bool) → List ℕ → List ℕ
behind_all passes text = drop (prefix_len passes text) text

abbrev pub behind_blanks : List ℕ → List ℕ
behind_blanks text = behind_all is_blank text

-- the digits at the front, and what stands behind them
abbrev pub digits_of : List ℕ → List ℕ
digits_of text = take_while is_ascii_digit text

abbrev pub behind_digits : List ℕ → List ℕ
behind_digits text = behind_all is_ascii_digit text

-- what stands behind a line that ends here, of which there is nothing where the text ends
abbrev pub plain_end : List ℕ → Option (Option (List ℕ))
plain_end [] = Some None
plain_end (byte ∷ text) = if is_feed byte then Some (Some text) else None

-- the same, where a carriage return may stand before the end
abbrev pub line_end : List ℕ → Option (Option (List ℕ))
line_end [] = Some None
line_end (byte ∷ text) = if byte == 13 then plain_end text else plain_end (byte ∷ text)

-- the first of the lines, and those behind it
abbrev pub first_of : List (List ℕ) → List ℕ
first_of [] = []
first_of (line ∷ lines) = line

abbrev pub first_line : List ℕ → List ℕ
first_line text = first_of (lines_of text)

abbrev pub later_lines : List ℕ → List (List ℕ)
later_lines text = drop 1 (lines_of text)

-- the lines of what stands behind a line feed
abbrev pub lines_behind : Option (List ℕ) → List (List ℕ)
lines_behind None = []
lines_behind (Some text) = lines_of text

-- the bytes from a line feed on
abbrev pub bytes_behind : Option (List ℕ) → ℕ
bytes_behind None = 0
bytes_behind (Some text) = length text + 1

-- a line with a line feed is no block line
abbrev pub row_of_all : List ℕ → Option (List ℕ) → Option (List ℕ)
row_of_all row None = Some row
row_of_all row (Some text) = None

-- the first line of the text has these numbers, and this stands behind it
pub record IsFirstRow (text row : List ℕ) (next : Option (List ℕ)) : Type 0 where
  pub numbers : block_line (first_line text) ≡ Some row
  pub later : later_lines text ≡ lines_behind next
  pub all : block_line text ≡ row_of_all row next
  pub few : length row + bytes_behind next ≤ length text

-- neither the first line nor the whole text is a block line
pub record HasBadFirst (text : List ℕ) : Type 0 where
  pub first : block_line (first_line text) ≡ None
  pub all : block_line text ≡ None
