-- Block text: each line is blank or holds the numbers of a block.
use Rattle.std.specs.Prelude.{◌≡◌, ℕ, ◌+◌, ◌==◌, nat_lt, Bool, List, [], ◌∷◌, ◌++◌, length, Option, Some, None, ⊤, if◌then◌else◌}
use Rattle.std.specs.List.{slice_split}
use Rattle.block_texts.specs.BlockLines.{block_line, with_row}
use Rattle.block_texts.specs.declared.blocks.BlockTextEnd.{BlockTextEnd}
use Rattle.block_texts.specs.declared.blocks.BlockTextEnd.TheVariants.{BadLine, Memory}

abbrev pub is_feed : ℕ → Bool
is_feed byte = byte == 10

-- the lines of a text: what stands before each line feed, and what stands behind the last
abbrev pub lines_of : List ℕ → List (List ℕ)
lines_of text = slice_split is_feed text

-- the blocks of a text, or the place of its first bad line
pub data BlockText : Type 0 where
  blocks : List (List ℕ) → BlockText
  bad_line : ℕ → BlockText

-- rows in front of those of a text
abbrev pub behind : List (List ℕ) → BlockText → BlockText
behind rows (bad_line place) = bad_line place
behind rows (blocks more) = blocks (rows ++ more)

-- what the line at a place adds to the blocks of those behind it; a blank line adds nothing
abbrev pub with_line : ℕ → Option (List ℕ) → BlockText → BlockText
with_line place None rest = bad_line place
with_line place (Some row) rest = behind (with_row [] row) rest

-- the lines from this place on
unfoldable pub read_from : ℕ → List (List ℕ) → BlockText
read_from place [] = blocks []
read_from place (line ∷ lines) = with_line place (block_line line) (read_from (place + 1) lines)

-- the blocks of a text; places count from 1
unfoldable pub block_text : List ℕ → BlockText
block_text text = read_from 1 (lines_of text)

-- the rows up to the first that has fewer numbers than `least`
unfoldable pub until_short : ℕ → List (List ℕ) → List (List ℕ)
until_short least [] = []
until_short least (row ∷ rows) = if nat_lt (length row) least then row ∷ [] else row ∷ until_short least rows

-- the same of the blocks of a text
abbrev pub shortened : ℕ → BlockText → BlockText
shortened least (bad_line place) = bad_line place
shortened least (blocks rows) = blocks (until_short least rows)

-- the text is bad at the line that is named
abbrev pub IsBadText : List ℕ → BlockTextEnd → Type 0
IsBadText text (BadLine line) = block_text text ≡ bad_line line
IsBadText text Memory = ⊤
