-- The numbers of a line, read from its front.
use Rattle.std.proofs.Common.{◌≡◌, ℕ, suc, ◌-◌, ◌<◌, ◌≤◌, Bool, true, false, cond, ◌==◌, ◌&&◌, List, [], ◌∷◌, ◌++◌, length, take, drop, None, Some, Option, append-nil, refl, ap, sym, ◌∙◌, arith}
use Rattle.std.specs.Prelude.{filter, if◌then◌else◌, slice_index}
use Rattle.std.specs.Char.{is_ascii_digit}
use Rattle.std.specs.List.{list_all, prefix_len, slice_split}
use Rattle.std.specs.Str.Lines.{strip_carriage_return}
use Rattle.std.specs.Str.Parse.{digits_value}
use Rattle.counting.proofs.Booleans.{and_from, both, le-leb, lt-leb}
use Rattle.std.proofs.lemmas.Bool.Decides.{nat_tests}
use Rattle.std.proofs.lemmas.List.Folds.{length-prefix_len}
use Rattle.std.proofs.lemmas.List.Splits.{slice_split-cons_yes}
use Rattle.counting.specs.Search.{◌<=◌}
use Rattle.design_base.specs.declared.limits.TheConstants.{BLOCK_DIGITS_MAX}
use Rattle.design_lines.specs.Words.{is_blank, is_not_empty, value_of, words_of}
use Rattle.design_lines.proofs.Runs.{words_behind_blank}
use Rattle.block_texts.specs.BlockLines.{block_line, block_number, numbers_of, small, with_number}
use Rattle.block_texts.specs.Fronts.{digits_of, first_of}
use Rattle.block_texts.proofs.Fronts.{all_pass, begins, parts-more, parts-onto}

-- only the last byte of a line can be dropped
strip-more : (byte next : ℕ) (line : List ℕ) → strip_carriage_return (byte ∷ next ∷ line) ≡ byte ∷ strip_carriage_return (next ∷ line)
strip-more byte next line =
    let long : length (byte ∷ next ∷ line) - 1 ≡ suc (length line) = omega arith in
    let short : length (next ∷ line) - 1 ≡ length line = omega arith in
    ap (λ n. if slice_index (byte ∷ next ∷ line) n == 13 then take n (byte ∷ next ∷ line) else byte ∷ next ∷ line) long
    ∙ of (slice_index (next ∷ line) (length line) == 13)
    ∙ sym (ap (λ n. byte ∷ (if slice_index (next ∷ line) n == 13 then take n (next ∷ line) else next ∷ line)) short)
  where
    of : (b : Bool) → (if b then byte ∷ take (length line) (next ∷ line) else byte ∷ next ∷ line) ≡ byte ∷ (if b then take (length line) (next ∷ line) else next ∷ line)
    of true = refl
    of false = refl

-- and only a carriage return
strip-other : (byte : ℕ) (line : List ℕ) → (byte == 13) ≡ false → strip_carriage_return (byte ∷ line) ≡ byte ∷ strip_carriage_return line
strip-other byte [] other = ap (λ b. if b then [] else byte ∷ []) other
strip-other byte (next ∷ line) other = strip-more byte next line

digit_apart : (byte : ℕ) → is_ascii_digit byte ≡ true → (byte == 13) ≡ false
digit_apart byte digit = grind (arith, nat_tests)

pub digit_in_word : (byte : ℕ) → is_ascii_digit byte ≡ true → is_blank byte ≡ false
digit_in_word byte digit = grind (arith, nat_tests)

blank_apart : (byte : ℕ) → is_blank byte ≡ true → (byte == 13) ≡ false
blank_apart byte blank = grind (arith, nat_tests)

strip-word : (word line : List ℕ) → list_all is_ascii_digit word ≡ true → strip_carriage_return (word ++ line) ≡ word ++ strip_carriage_return line
strip-word [] line digits = refl
strip-word (byte ∷ word) line digits =
    let split = both (is_ascii_digit byte) (list_all is_ascii_digit word) digits in
    strip-other byte (word ++ line) (digit_apart byte split.0) ∙ ap (λ l. byte ∷ l) (strip-word word line split.1)

strip-begins : (line : List ℕ) → begins is_ascii_digit line ≡ false → begins is_ascii_digit (strip_carriage_return line) ≡ false
strip-begins [] fails = refl
strip-begins (byte ∷ []) fails = of (byte == 13)
  where
    of : (b : Bool) → begins is_ascii_digit (if b then [] else byte ∷ []) ≡ false
    of true = refl
    of false = fails
strip-begins (byte ∷ next ∷ line) fails = ap (begins is_ascii_digit) (strip-more byte next line) ∙ fails

-- a word with another byte than digits is no number
not_all : (word line : List ℕ) (byte : ℕ) → is_ascii_digit byte ≡ false → list_all is_ascii_digit (word ++ byte ∷ line) ≡ false
not_all [] line byte fails = ap (λ b. b && list_all is_ascii_digit line) fails
not_all (first ∷ word) line byte fails = of (is_ascii_digit first) (not_all word line byte fails)
  where
    of : (b : Bool) → list_all is_ascii_digit (word ++ byte ∷ line) ≡ false → (b && list_all is_ascii_digit (word ++ byte ∷ line)) ≡ false
    of true rest = rest
    of false rest = refl

no_number : (word line : List ℕ) (byte : ℕ) → is_ascii_digit byte ≡ false → block_number (word ++ byte ∷ line) ≡ None
unfolding block_number
no_number word line byte fails =
    ap (λ b. if short then small (if b then Some (digits_value 10 whole) else None) else None) (not_all word line byte fails) ∙ of short
  where
    whole : List ℕ
    whole = word ++ byte ∷ line

    short : Bool
    short = 1 <= length whole && length whole <= BLOCK_DIGITS_MAX

    of : (b : Bool) → (if b then small None else None) ≡ small None
    of true = refl
    of false = refl

-- without a number there are none
with_number-none : (number : Option ℕ) → with_number number None ≡ None
with_number-none None = refl
with_number-none (Some n) = refl

abbrev numbers : List ℕ → Option (List ℕ)
numbers line = numbers_of (words_of line)

-- the first word
numbers-first : (byte : ℕ) (word : List ℕ) (parts : List (List ℕ)) → numbers_of (filter is_not_empty ((byte ∷ word) ∷ parts)) ≡ with_number (block_number (byte ∷ word)) (numbers_of (filter is_not_empty parts))
unfolding numbers_of
numbers-first byte word parts =
    let some : 1 ≤ length (byte ∷ word) = omega arith in
    ap (λ b. numbers_of (cond b ((byte ∷ word) ∷ filter is_not_empty parts) (filter is_not_empty parts))) (le-leb 1 (length (byte ∷ word)) some)

-- another byte in front
numbers-bad : (byte : ℕ) (line : List ℕ) → is_blank byte ≡ false → is_ascii_digit byte ≡ false → numbers (byte ∷ line) ≡ None
unfolding words_of
numbers-bad byte line unblank fails =
    ap (λ parts. numbers_of (filter is_not_empty parts)) (parts-more is_blank byte line unblank)
    ∙ numbers-first byte (first_of (slice_split is_blank line)) (drop 1 (slice_split is_blank line))
    ∙ ap (λ o. with_number o (numbers_of (filter is_not_empty (drop 1 (slice_split is_blank line))))) (no_number [] (first_of (slice_split is_blank line)) byte fails)

-- digits in front, up to another byte
numbers-word : (first : ℕ) (word line : List ℕ) → list_all is_ascii_digit (first ∷ word) ≡ true → begins is_ascii_digit line ≡ false → numbers ((first ∷ word) ++ line) ≡ with_number (block_number (first ∷ word)) (numbers line)
unfolding words_of numbers_of
numbers-word first word line digits ends =
    ap (λ parts. numbers_of (filter is_not_empty parts)) (parts-onto is_blank is_ascii_digit digit_in_word (first ∷ word) line digits)
    ∙ numbers-first first (word ++ first_of (slice_split is_blank line)) (drop 1 (slice_split is_blank line))
    ∙ by line ends
  where
    by : (line : List ℕ) → begins is_ascii_digit line ≡ false
        → with_number (block_number (first ∷ word ++ first_of (slice_split is_blank line))) (numbers_of (filter is_not_empty (drop 1 (slice_split is_blank line)))) ≡ with_number (block_number (first ∷ word)) (numbers line)
    by [] ends = ap (λ w. with_number (block_number (first ∷ w)) (Some [])) (append-nil word)
    by (byte ∷ line) ends = of (is_blank byte) refl
      where
        of : (b : Bool) → is_blank byte ≡ b
            → with_number (block_number (first ∷ word ++ first_of (slice_split is_blank (byte ∷ line)))) (numbers_of (filter is_not_empty (drop 1 (slice_split is_blank (byte ∷ line))))) ≡ with_number (block_number (first ∷ word)) (numbers (byte ∷ line))
        of true is =
            ap (λ parts. with_number (block_number (first ∷ word ++ first_of parts)) (numbers_of (filter is_not_empty (drop 1 parts)))) (slice_split-cons_yes is_blank byte line is)
            ∙ ap (λ w. with_number (block_number (first ∷ w)) (numbers line)) (append-nil word)
            ∙ ap (λ words. with_number (block_number (first ∷ word)) (numbers_of words)) (sym (words_behind_blank byte line is))
        of false is =
            ap (λ parts. with_number (block_number (first ∷ word ++ first_of parts)) (numbers_of (filter is_not_empty (drop 1 parts)))) (parts-more is_blank byte line is)
            ∙ ap (λ o. with_number o (numbers_of (filter is_not_empty (drop 1 (slice_split is_blank line))))) (no_number (first ∷ word) (first_of (slice_split is_blank line)) byte ends)
            ∙ sym (ap (with_number (block_number (first ∷ word))) (numbers-bad byte line is ends) ∙ with_number-none (block_number (first ∷ word)))

-- a blank in front of a line
pub line-blank : (byte : ℕ) (line : List ℕ) → is_blank byte ≡ true → block_line (byte ∷ line) ≡ block_line line
unfolding block_line
line-blank byte line is =
    ap numbers (strip-other byte line (blank_apart byte is)) ∙ ap numbers_of (words_behind_blank byte (strip_carriage_return line) is)

-- digits in front of one
pub line-word : (word line : List ℕ) → 0 < length word → list_all is_ascii_digit word ≡ true → begins is_ascii_digit line ≡ false → block_line (word ++ line) ≡ with_number (block_number word) (block_line line)
unfolding block_line
line-word [] line some digits ends = absurd (omega (arith, some))
line-word (first ∷ word) line some digits ends =
    ap numbers (strip-word (first ∷ word) line digits) ∙ numbers-word first word (strip_carriage_return line) digits (strip-begins line ends)

-- another byte in front
pub line-bad : (byte : ℕ) (line : List ℕ) → is_blank byte ≡ false → is_ascii_digit byte ≡ false → (byte == 13) ≡ false → block_line (byte ∷ line) ≡ None
unfolding block_line
line-bad byte line unblank fails other = ap numbers (strip-other byte line other) ∙ numbers-bad byte (strip_carriage_return line) unblank fails

-- a carriage return too, where more stands behind it
pub line-bad-more : (byte next : ℕ) (line : List ℕ) → is_blank byte ≡ false → is_ascii_digit byte ≡ false → block_line (byte ∷ next ∷ line) ≡ None
unfolding block_line
line-bad-more byte next line unblank fails = ap numbers (strip-more byte next line) ∙ numbers-bad byte (strip_carriage_return (next ∷ line)) unblank fails

-- no number
pub line-none : block_line [] ≡ Some []
unfolding block_line words_of numbers_of
line-none = refl

pub line-return : (byte : ℕ) → (byte == 13) ≡ true → block_line (byte ∷ []) ≡ Some []
unfolding block_line words_of numbers_of
line-return byte is = ap (λ b. numbers (if b then [] else byte ∷ [])) is

-- the digits in front are no number where there are none, or too many
digits-short : (word : List ℕ) → (1 <= length word && length word <= BLOCK_DIGITS_MAX) ≡ false → block_number word ≡ None
unfolding block_number
digits-short word long = ap (λ b. if b then small (value_of word) else None) long

pub digits-none : (text : List ℕ) → prefix_len is_ascii_digit text ≡ 0 → block_number (digits_of text) ≡ None
digits-none text none =
    let long : length (digits_of text) ≡ 0 = length-prefix_len is_ascii_digit text ∙ none in
    digits-short (digits_of text) (ap (λ n. 1 <= n && n <= BLOCK_DIGITS_MAX) long)

pub digits-many : (text : List ℕ) → BLOCK_DIGITS_MAX < prefix_len is_ascii_digit text → block_number (digits_of text) ≡ None
digits-many text many = digits-short (digits_of text) (ap (λ n. 1 <= n && n <= BLOCK_DIGITS_MAX) (length-prefix_len is_ascii_digit text) ∙ of (prefix_len is_ascii_digit text) many)
  where
    of : (n : ℕ) → BLOCK_DIGITS_MAX < n → (1 <= n && n <= BLOCK_DIGITS_MAX) ≡ false
    of n many = grind (arith, nat_tests)

-- or else the number that they write, where it is small
pub digits-number : (text : List ℕ) (count value : ℕ) → 1 ≤ count → count ≤ BLOCK_DIGITS_MAX → prefix_len is_ascii_digit text ≡ count → value ≡ digits_value 10 (take count text) → block_number (digits_of text) ≡ small (Some value)
unfolding block_number
digits-number text count value some few counted written =
    let long : length (digits_of text) ≡ count = length-prefix_len is_ascii_digit text ∙ counted in
    let short : (1 <= length (digits_of text) && length (digits_of text) <= BLOCK_DIGITS_MAX) ≡ true =
    ap (λ n. 1 <= n && n <= BLOCK_DIGITS_MAX) long ∙ and_from _ _ (le-leb 1 count some) (le-leb count BLOCK_DIGITS_MAX few) in
    ap (λ b. if b then small (value_of (digits_of text)) else None) short
    ∙ ap (λ b. small (if b then Some (digits_value 10 (digits_of text)) else None)) (all_pass is_ascii_digit text)
    ∙ ap (λ n. small (Some (digits_value 10 (take n text)))) counted
    ∙ ap (λ n. small (Some n)) (sym written)

pub small-none : (value : ℕ) → (value < 65536 → ⊥) → small (Some value) ≡ None
small-none value large = ap (λ b. if b then Some value else None) (lt-leb value 65535 (omega (arith, large)))

pub small-some : (value : ℕ) → value < 65536 → small (Some value) ≡ Some value
small-some value few = ap (λ b. if b then Some value else None) (le-leb value 65535 (omega (arith, few)))
