-- The lines of a text, and what a reader of lines gives.
use Rattle.std.specs.Prelude.{◌≡◌, ℕ, ◌+◌, ◌==◌, ◌&&◌, Bool, true, false, nat_le, List, [], ◌∷◌, ◌++◌, length, count_by, ◌<◌, ◌≤◌, Option, Some, None, Result, Ok, Err, if◌then◌else◌}
use Rattle.std.specs.Str.Lines.{strip_carriage_return}
use Rattle.design_base.specs.declared.limits.TheConstants.{LINE_MAX}
use Rattle.design_io.specs.Faults.{counted}
use Rattle.design_io.specs.declared.lines.LineEnd.{LineEnd}
use Rattle.design_io.specs.declared.lines.LineEnd.TheVariants.{Failed, TooLong}

abbrev pub is_feed : ℕ → Bool
is_feed byte = byte == 10

-- how many line feeds stand in a text
abbrev pub feeds_in : List ℕ → ℕ
feeds_in text = count_by is_feed text

-- The bytes of a line, and whether a line feed ends it. Only the last line of a text may lack it.
pub record InputLine : Type 0 where
  pub bytes : List ℕ
  pub is_ended : Bool

abbrev pub ended_line : List ℕ → InputLine
ended_line bytes = record { bytes = bytes; is_ended = true }

abbrev pub cut_line : List ℕ → InputLine
cut_line bytes = record { bytes = bytes; is_ended = false }

-- a byte in front of the first line
abbrev pub with_byte : ℕ → List InputLine → List InputLine
with_byte byte [] = cut_line (byte ∷ []) ∷ []
with_byte byte (l ∷ lines) = record l { bytes = byte ∷ l.bytes } ∷ lines

-- The lines of a text. The empty text has none, and what stands behind the last line feed is a line only where it has a byte.
unfoldable pub lines_of : List ℕ → List InputLine
lines_of [] = []
lines_of (byte ∷ text) = if is_feed byte then ended_line [] ∷ lines_of text else with_byte byte (lines_of text)

-- how many bytes a line has, its line feed among them
abbrev pub size_of : InputLine → ℕ
size_of l = if l.is_ended then length l.bytes + 1 else length l.bytes

-- the bytes of a line and its line feed
abbrev pub bytes_of : InputLine → List ℕ
bytes_of l = if l.is_ended then l.bytes ++ 10 ∷ [] else l.bytes

-- what is given of a line: a carriage return goes with the line feed behind it
abbrev pub content_of : InputLine → List ℕ
content_of l = if l.is_ended then strip_carriage_return l.bytes else l.bytes

-- the line is not longer than a line may be, and the input not longer than the room for it
abbrev pub fits : ℕ → InputLine → Bool
fits room l = nat_le (length l.bytes) LINE_MAX && nat_le (size_of l) room

-- What stands first in a text: nothing, a line and those behind it, or a line that is too long.
pub data Next : Type 0 where
  no_line : Next
  next_line : InputLine → List InputLine → Next
  too_long : Next

-- the first of the lines, where the input may have so many bytes more
abbrev pub first_line : ℕ → List InputLine → Next
first_line room [] = no_line
first_line room (l ∷ lines) = if fits room l then next_line l lines else too_long

-- A reader of lines: the bytes that it has read and not yet given, the line that it gave last, how many it gave, how many
-- bytes the input may still have, and whether it is over: then it gives no more.
pub record LinesRead : Type 0 where
  pub held : List ℕ
  pub last : InputLine
  pub lines : ℕ
  pub room : ℕ
  pub is_over : Bool

-- a reader that has given nothing
abbrev pub new_reader : ℕ → LinesRead
new_reader limit = record { held = []; last = cut_line []; lines = 0; room = limit; is_over = false }

-- The reader gave a line, where `left` was left in it and in the source before, and `rest` is behind: the first of the lines
-- that were left, which has no other line feed than the one at its end. Where the reader is over then, no line is left.
pub record GivesLine (old new : LinesRead) (left rest : List ℕ) : Type 0 where
  pub begun : old.is_over ≡ false
  pub first : first_line old.room (lines_of left) ≡ next_line new.last (lines_of rest)
  pub taken : left ≡ bytes_of new.last ++ rest
  pub alone : feeds_in new.last.bytes ≡ 0
  pub last : new.is_over ≡ true → rest ≡ []

-- What one call answers: that there is a line; that there is none, since the reader was over or no byte is left; that the
-- source failed, and no byte was lost; or that the next line is too long.
abbrev pub Gives : LinesRead → LinesRead → List ℕ → List ℕ → Result Bool LineEnd → Type 0
Gives old new left rest (Ok true) = GivesLine old new left rest
Gives old new left rest (Ok false) = (old.is_over ≡ false → left ≡ []) × (rest ≡ left)
Gives old new left rest (Err Failed) = (old.is_over ≡ false) × (rest ≡ left)
Gives old new left rest (Err (TooLong line)) = (old.is_over ≡ false) × (first_line old.room (lines_of left) ≡ too_long)

-- the same where the bytes behind it are told too
abbrev pub GivesFrom : LinesRead → LinesRead → List ℕ → Option (List ℕ) → Result Bool LineEnd → Type 0
GivesFrom old new left None result = ⊥
GivesFrom old new left (Some rest) result = Gives old new left rest result

-- whether there was a line
abbrev pub was_given : {A : Type 0} → Result (Option A) LineEnd → Result Bool LineEnd
was_given (Ok None) = Ok false
was_given (Ok (Some line)) = Ok true
was_given (Err end) = Err end

-- What a call leaves, where the bytes are told and where they are not: how many lines the reader gave, the room for the
-- others, and whether it is over. At a failure no whole line is held.
abbrev pub Advances : LinesRead → LinesRead → Result Bool LineEnd → Type 0
Advances old new (Ok true) =
    (new.lines ≡ old.lines + 1) × (old.room ≡ new.room + size_of new.last) × (0 < size_of new.last) × (length new.last.bytes ≤ LINE_MAX) × (new.is_over ≡ false → new.last.is_ended ≡ true)
Advances old new (Ok false) = new.is_over ≡ true
Advances old new (Err Failed) = (new.is_over ≡ true) × (feeds_in new.held ≡ 0)
Advances old new (Err (TooLong line)) = (new.is_over ≡ true) × (line ≡ old.lines + 1)

-- the count of faults behind a call: a failed read is one fault, and no other answer is
abbrev pub faults_behind : {A : Type 0} → ℕ → Result A LineEnd → ℕ
faults_behind before (Ok answer) = before
faults_behind before (Err Failed) = counted before
faults_behind before (Err (TooLong line)) = before
