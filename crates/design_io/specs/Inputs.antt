-- What reading to the end of input gives, where the bytes are told.
use Rattle.std.specs.Prelude.{◌≡◌, ℕ, ◌+◌, ◌<◌, ◌≤◌, ◌==◌, List, [], length, take, Option, Some, None, Result, Ok, Err, IfSome, Vec, count_by, ⊤}
use Rattle.design_io.specs.Faults.{counted}
use Rattle.design_io.specs.declared.reading.ReadEnd.{ReadEnd}
use Rattle.design_io.specs.declared.reading.ReadEnd.TheVariants.{Failed, TooLong, Memory}

-- All that was left was taken, and it was bs.
abbrev pub TakesAll : Option (List ℕ) → Option (List ℕ) → List ℕ → Type 0
TakesAll None new bs = ⊤
TakesAll (Some xs) new bs = (bs ≡ xs) × (new ≡ Some [])

-- the line, from 1, of the byte at a place: one more than the line feeds before it
abbrev pub line_at : List ℕ → ℕ → ℕ
line_at bytes place = count_by (λ b. b == 10) (take place bytes) + 1

-- More bytes were left than the limit, and the first one past it stands on the line.
abbrev pub IsTooLong : Option (List ℕ) → ℕ → ReadEnd → Type 0
IsTooLong left limit Failed = ⊤
IsTooLong left limit (TooLong line) = IfSome left (λ bytes. (limit < length bytes) × (line ≡ line_at bytes limit))
IsTooLong left limit Memory = ⊤

-- What is left is this text, where it is told.
abbrev pub IsInput : Option (List ℕ) → List ℕ → Type 0
IsInput left text = IfSome left (λ bytes. bytes ≡ text)

-- Reading a text up to a limit gives all of it where it is not longer, and else the line at which it is.
abbrev pub ReadGives : {Z : Type 0} → ℕ → List ℕ → Result (Vec ℕ Z) ReadEnd → Type 0
ReadGives limit text (Ok all) = (length text ≤ limit) × (all.items ≡ text)
ReadGives limit text (Err Failed) = ⊤
ReadGives limit text (Err (TooLong line)) = (limit < length text) × (line ≡ line_at text limit)
ReadGives limit text (Err Memory) = ⊤

-- There is a text that is read up to a limit: what was left, where that is told.
pub record ReadsText {Z : Type 0} (left : Option (List ℕ)) (limit : ℕ) (result : Result (Vec ℕ Z) ReadEnd) : Type 0 where
  pub text : List ℕ
  pub is_input : IsInput left text
  pub gives : ReadGives limit text result

-- the count of faults after reading: a failed read is one fault, and no other end is
abbrev pub faults_after : {Z : Type 0} → ℕ → Result (Vec ℕ Z) ReadEnd → ℕ
faults_after before (Ok all) = before
faults_after before (Err Failed) = counted before
faults_after before (Err (TooLong line)) = before
faults_after before (Err Memory) = before
