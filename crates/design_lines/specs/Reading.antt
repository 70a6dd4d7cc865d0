-- Reading words from the left: the first bad one decides.
use Rattle.std.specs.Prelude.{◌≡◌, ℕ, ◌+◌, Bool, false, if◌then◌else◌, List, [], ◌∷◌, drop, Option, Some, None, Result, Ok, Err}
use Rattle.std.specs.Str.{bytes_eq}
use Rattle.design_lines.specs.declared.command.Reason.{Reason}
use Rattle.design_lines.specs.declared.command.Reason.TheVariants.{Missing, Unknown, Spelling, Surplus}
use Rattle.design_lines.specs.Words.{number_of}

-- the words that are left, of which the first has the number `at`
pub record Rest : Type 0 where
  pub at : ℕ
  pub words : List (List ℕ)

-- a value that was read, and what is left
pub record Reading (A : Type 0) : Type 0 where
  pub value : A
  pub at : ℕ
  pub words : List (List ℕ)

-- what reads a value from words, of which the first has the number `at`
abbrev pub Reader : Type 0 → Type 0
Reader A = ℕ → List (List ℕ) → Result (Reading A) Reason

-- no word is read
abbrev pub gives : {A : Type 0} → A → Reader A
gives value at words = Ok (record { value = value; at = at; words = words })

-- what is left behind the next word, where there is one
unfoldable pub behind_word : Rest → Rest
behind_word rest = of rest.at rest.words
  where
    of : ℕ → List (List ℕ) → Rest
    of at [] = record { at = at; words = [] }
    of at (word ∷ words) = record { at = at + 1; words = words }

-- what `next` reads behind the value
abbrev pub behind : {A B : Type 0} → (A → Reader B) → Result (Reading A) Reason → Result (Reading B) Reason
behind next (Err reason) = Err reason
behind next (Ok r) = next r.value r.at r.words

infixr 3 ◌then◌
abbrev pub ◌then◌ : {A B : Type 0} → Reader A → (A → Reader B) → Reader B
(read then next) at words = behind next (read at words)

-- a number
abbrev pub spelled : ℕ → List (List ℕ) → Option ℕ → Result (Reading ℕ) Reason
spelled at words None = Err (Spelling at)
spelled at words (Some n) = gives n (at + 1) words

unfoldable pub number : Reader ℕ
number at [] = Err (Missing at)
number at (word ∷ words) = spelled at words (number_of word)

-- two and three numbers
unfoldable pub pair : Reader (ℕ × ℕ)
pair = number then λ a. number then λ b. gives (a, b)

unfoldable pub triple : Reader (ℕ × ℕ × ℕ)
triple = number then λ a. number then λ b. number then λ c. gives (a, b, c)

-- what is read behind a fixed word
pub record Entry (A : Type 0) : Type 0 where
  pub word : List ℕ
  pub meaning : Reader A

infix 2 ◌means◌
abbrev pub ◌means◌ : {A : Type 0} → List ℕ → Reader A → Entry A
word means meaning = record { word = word; meaning = meaning }

-- the next word is this one
unfoldable pub is_next : List ℕ → List (List ℕ) → Bool
is_next text [] = false
is_next text (word ∷ words) = bytes_eq word text

-- what is read behind the first of the fixed words that is the next word; where none is, what `otherwise` reads
unfoldable pub one_of_or : {A : Type 0} → List (Entry A) → Reader A → Reader A
one_of_or [] otherwise at words = otherwise at words
one_of_or (e ∷ entries) otherwise at words = if is_next e.word words then e.meaning (at + 1) (drop 1 words) else one_of_or entries otherwise at words

-- a fixed word is due, and none of them stands
unfoldable pub no_fixed_word : ℕ → List (List ℕ) → Reason
no_fixed_word at [] = Missing at
no_fixed_word at (word ∷ words) = Unknown at

abbrev pub refused : {A : Type 0} → Reader A
refused at words = Err (no_fixed_word at words)

-- one of the fixed words, and what is read behind it
abbrev pub one_of : {A : Type 0} → List (Entry A) → Reader A
one_of entries = one_of_or entries refused

-- the value, where no word is left
unfoldable pub at_end : {A : Type 0} → A → Reader A
at_end value at [] = gives value at []
at_end value at (word ∷ words) = Err (Surplus at)

abbrev pub value_read : {A : Type 0} → Result (Reading A) Reason → Result A Reason
value_read (Err reason) = Err reason
value_read (Ok r) = Ok r.value

-- what is read of all the words, from the first on
abbrev pub whole : {A : Type 0} → Reader A → List (List ℕ) → Result A Reason
whole read words = value_read ((read then at_end) 1 words)

-- a call gave what is read of the words that were left, and left those behind
abbrev pub Reads : {A : Type 0} → Reader A → Rest → Rest → Result A Reason → Type 0
Reads read old new (Ok value) = read old.at old.words ≡ Ok (record { value = value; at = new.at; words = new.words })
Reads read old new (Err reason) = read old.at old.words ≡ Err reason
