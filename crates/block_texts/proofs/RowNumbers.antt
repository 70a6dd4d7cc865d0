-- How many numbers a line has.
use Rattle.std.proofs.Common.{ℕ, ◌+◌, ◌-◌, ◌<◌, ◌≤◌, Bool, true, false, ◌==◌, List, [], ◌∷◌, length, take, length-take, arith}
use Rattle.std.specs.Prelude.{IfSome, Option, Some, None, option_and_then, option_map, if◌then◌else◌, slice_index}
use Rattle.std.specs.Str.Lines.{strip_carriage_return}
use Rattle.design_lines.specs.Words.{words_of}
use Rattle.block_texts.specs.BlockLines.{block_line, block_number, numbers_of}
use Rattle.design_lines.proofs.Runs.{few_words}

stripped_length : (line : List ℕ) → length (strip_carriage_return line) ≤ length line
stripped_length line = split (slice_index line (length line - 1) == 13)
  where
    split : (b : Bool) → length (if b then take (length line - 1) line else line) ≤ length line
    split true = omega (arith, length-take (length line - 1) line)
    split false = omega arith

-- a line has no more numbers than words, and no more words than bytes
numbers_few : (words : List (List ℕ)) → IfSome (numbers_of words) (λ row. length row ≤ length words)
unfolding numbers_of
numbers_few [] = omega arith
numbers_few (word ∷ words) = split (block_number word) (numbers_of words) (numbers_few words)
  where
    split : (first : Option ℕ) (rest : Option (List ℕ)) → IfSome rest (λ row. length row ≤ length words)
        → IfSome (option_and_then (λ n. option_map (λ row. n ∷ row) rest) first) (λ row. length row ≤ length (word ∷ words))
    split None rest few = tt
    split (Some n) None few = tt
    split (Some n) (Some row) few = omega (arith, few)

-- where there is room for a number for each byte of a line, there is room for its numbers
pub room_for_numbers : (line : List ℕ) (size room : ℕ) → size + length line + 1 < room → IfSome (block_line line) (λ row. size + length row + 1 < room)
unfolding block_line
room_for_numbers line size room fits =
    of (numbers_of (words_of (strip_carriage_return line))) (numbers_few (words_of (strip_carriage_return line)))
  where
    of : (o : Option (List ℕ)) → IfSome o (λ row. length row ≤ length (words_of (strip_carriage_return line))) → IfSome o (λ row. size + length row + 1 < room)
    of None few = tt
    of (Some row) few = omega (arith, few, few_words (strip_carriage_return line), stripped_length line, fits)
