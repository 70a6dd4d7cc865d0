-- The lines of a derivation, read one after another.
use Rattle.std.proofs.Common.{◌≡◌, ℕ, ◌+◌, ◌<◌, ◌≤◌, true, false, List, [], ◌∷◌, ◌++◌, length, Some, None, Result, Err, ap, ◌∙◌, arith, refl}
use Rattle.std.specs.Prelude.{nat_lt, ◌&&◌, Bool}
use Rattle.counting.specs.Search.{◌<=◌}
use Rattle.design_lines.specs.Reading.{whole}
use Rattle.design_lines.specs.Words.{spaced_words}
use Rattle.std.proofs.lemmas.Bool.Decides.{nat_tests}
use Rattle.design_base.specs.declared.limits.TheConstants.{DERIVATION_MAX}
use Rattle.design_io.specs.InputLines.{InputLine, lines_of}
use Rattle.derivations.specs.declared.line.Line.{Line}
use Rattle.derivation_text.specs.Grammar.{Parsed, parsed, bad, too_long, behind_skipped, parse_behind, parse_input, input_lines, is_end, is_head_text, is_number, end_line, spelled_line}

-- no line is left
pub behind_none : (all : Parsed) (D : List Line) (lines : List InputLine) (count : ℕ) → all ≡ parse_behind D lines → lines ≡ [] → count ≡ length D → all ≡ bad (count + 2)
unfolding parse_behind
behind_none all D lines count so_far none counted = so_far ∙ ap (parse_behind D) none ∙ ap (λ n. bad (n + 2)) (rw counted refl)

-- the next line is the line `end`
pub behind_end : (all : Parsed) (D : List Line) (lines more : List InputLine) (l : InputLine) (count : ℕ) → all ≡ parse_behind D lines → lines ≡ l ∷ more → count ≡ length D → is_end count l ≡ true → all ≡ parsed D more
unfolding parse_behind
behind_end all D lines more l count so_far first counted ends = so_far ∙ ap (parse_behind D) first ∙ rw (rw counted at ends) refl

-- there are too many lines
pub behind_long : (all : Parsed) (D : List Line) (lines more : List InputLine) (l : InputLine) (count : ℕ) → all ≡ parse_behind D lines → lines ≡ l ∷ more → count ≡ length D → is_end count l ≡ false
    → DERIVATION_MAX ≤ count → all ≡ too_long
unfolding parse_behind
behind_long all D lines more l count so_far first counted ends long =
    let full : nat_lt (length D) DERIVATION_MAX ≡ false = grind (arith, nat_tests, counted, long) in
    so_far ∙ ap (parse_behind D) first ∙ rw (rw counted at ends, full) refl

-- the next line is not spelled as it should be
pub behind_bad : (all : Parsed) (D : List Line) (lines more : List InputLine) (l : InputLine) (count : ℕ) → all ≡ parse_behind D lines → lines ≡ l ∷ more → count ≡ length D → is_end count l ≡ false
    → count < DERIVATION_MAX → spelled_line (count + 1) l ≡ None → all ≡ bad (count + 2)
unfolding parse_behind
behind_bad all D lines more l count so_far first counted ends some spelled =
    let room : nat_lt (length D) DERIVATION_MAX ≡ true = grind (arith, nat_tests, counted, some) in
    so_far ∙ ap (parse_behind D) first ∙ rw (rw counted at ends, room, rw counted at spelled) (rw counted refl)

-- one more line
pub behind_more : (all : Parsed) (D E : List Line) (lines more : List InputLine) (l : InputLine) (x : Line) (count : ℕ) → all ≡ parse_behind D lines → lines ≡ l ∷ more → count ≡ length D → is_end count l ≡ false
    → count < DERIVATION_MAX → spelled_line (count + 1) l ≡ Some x → E ≡ D ++ x ∷ [] → all ≡ parse_behind E more
unfolding parse_behind
behind_more all D E lines more l x count so_far first counted ends some spelled is =
    let room : nat_lt (length D) DERIVATION_MAX ≡ true = grind (arith, nat_tests, counted, some) in
    so_far ∙ ap (parse_behind D) first ∙ rw (rw counted at ends, room, rw counted at spelled, is) refl

-- the line `end` stands behind a line at least
pub end_behind_some : (count : ℕ) (l : InputLine) → is_end count l ≡ true → 0 < count
unfolding is_end
end_behind_some count l ends = of l.is_ended (1 <= count) refl ends
  where
    of : (ended some : Bool) → (1 <= count) ≡ some → (ended && some && is_number count (whole end_line (spaced_words l.bytes))) ≡ true → 0 < count
    of false some e h = cc
    of true false e h = cc
    of true true e h = grind (arith, nat_tests)

-- The lines of an input, skipped up to the first line `derivation 1`.

-- none is skipped yet
pub input_first : (text : List ℕ) → parse_input text ≡ input_lines 0 (lines_of text)
unfolding parse_input
input_first text = refl

-- no line is left
pub input_none : (all : Result (List Line) ℕ) (lines : List InputLine) (skipped : ℕ) → all ≡ input_lines skipped lines → lines ≡ [] → all ≡ Err (skipped + 1)
unfolding input_lines
input_none all lines skipped so_far none = so_far ∙ ap (input_lines skipped) none

-- the next line is the line `derivation 1` without its line feed
pub input_cut : (all : Result (List Line) ℕ) (lines more : List InputLine) (l : InputLine) (skipped : ℕ) → all ≡ input_lines skipped lines → lines ≡ l ∷ more → is_head_text l.bytes ≡ true → l.is_ended ≡ false → all ≡ Err (skipped + 1)
unfolding input_lines
input_cut all lines more l skipped so_far first head cut = so_far ∙ ap (input_lines skipped) first ∙ rw (head, cut) refl

-- the next line is the line `derivation 1`
pub input_head : (all : Result (List Line) ℕ) (lines more : List InputLine) (l : InputLine) (skipped : ℕ) → all ≡ input_lines skipped lines → lines ≡ l ∷ more → is_head_text l.bytes ≡ true → l.is_ended ≡ true
    → all ≡ behind_skipped skipped (parse_behind [] more)
unfolding input_lines
input_head all lines more l skipped so_far first head ended = so_far ∙ ap (input_lines skipped) first ∙ rw (head, ended) refl

-- one more line is skipped
pub input_more : (all : Result (List Line) ℕ) (lines more : List InputLine) (l : InputLine) (skipped : ℕ) → all ≡ input_lines skipped lines → lines ≡ l ∷ more → is_head_text l.bytes ≡ false → all ≡ input_lines (skipped + 1) more
unfolding input_lines
input_more all lines more l skipped so_far first head = so_far ∙ ap (input_lines skipped) first ∙ rw head refl
