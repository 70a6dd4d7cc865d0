-- The text that was read, where the source tells it and where it does not.
use Rattle.std.proofs.Common.{◌≡◌, ℕ, ◌+◌, ◌<◌, ◌==◌, List, [], ◌++◌, length, Option, Some, None, Result, Err, Vec, refl, ap, sym, arith, count_by, length-append}
use Rattle.std.proofs.lemmas.List.{take-append-le}
use Rattle.std.specs.Io.KnownBytes.{Consumes}
use Rattle.design_io.specs.Inputs.{IsInput, ReadsText, line_at}
use Rattle.design_io.specs.declared.reading.ReadEnd.{ReadEnd}
use Rattle.design_io.specs.declared.reading.ReadEnd.TheVariants.{Failed, TooLong, Memory}

-- what is left, where it is told, and else what was read
abbrev text_of : Option (List ℕ) → List ℕ → List ℕ
text_of None read = read
text_of (Some xs) read = xs

IsInput-text_of : (left : Option (List ℕ)) (read : List ℕ) → IsInput left (text_of left read)
IsInput-text_of None read = tt
IsInput-text_of (Some xs) read = refl

-- of a failed read no more is said than that there is a text
pub reads-Failed : {Z : Type 0} (left : Option (List ℕ)) (limit : ℕ) (result : Result (Vec ℕ Z) ReadEnd) → result ≡ Err Failed → ReadsText left limit result
reads-Failed left limit result failed = rw failed (record { text = text_of left []; is_input = IsInput-text_of left []; gives = tt })

-- nor of want of memory
pub reads-Memory : {Z : Type 0} (left : Option (List ℕ)) (limit : ℕ) (result : Result (Vec ℕ Z) ReadEnd) → result ≡ Err Memory → ReadsText left limit result
reads-Memory left limit result failed = rw failed (record { text = text_of left []; is_input = IsInput-text_of left []; gives = tt })

-- the line of a place of what was read is that of the text
line_at-append : (xs ys : List ℕ) (place : ℕ) → place < length xs → line_at (xs ++ ys) place ≡ line_at xs place
line_at-append xs ys place inside = ap (λ front. count_by (λ b. b == 10) front + 1) (take-append-le place xs ys (omega (arith, inside)))

too_long_text : (left now : Option (List ℕ)) (all : List ℕ) (limit : ℕ) → Consumes left now all → limit < length all
    → (limit < length (text_of left all)) × (line_at all limit ≡ line_at (text_of left all) limit)
too_long_text None now all limit bytes long = (long, refl)
too_long_text (Some xs) None all limit bytes long = absurd bytes
too_long_text (Some xs) (Some ys) all limit bytes long =
    rw bytes (omega (arith, length-append all ys, long), sym (line_at-append all ys limit long))

-- more than the limit was read
pub reads-TooLong : {Z : Type 0} (left now : Option (List ℕ)) (all : List ℕ) (limit line : ℕ) → Consumes left now all → limit < length all → line ≡ line_at all limit
    → ReadsText {Z = Z} left limit (Err (TooLong line))
reads-TooLong left now all limit line bytes long is =
    let told = too_long_text left now all limit bytes long in
    record { text = text_of left all; is_input = IsInput-text_of left all; gives = rw is (told.0, told.1) }

-- each way in which reading ends with an error
pub ruleset refused = (reads-Failed, reads-Memory, reads-TooLong)
