-- Printed words hold no space and no line feed, so that a line of them is taken apart again.
use Rattle.std.proofs.Common.{◌≡◌, ℕ, zero, suc, Bool, true, false, List, [], ◌∷◌, ◌++◌, take, map, refl, ap, ◌∙◌, arith}
use Rattle.std.specs.Prelude.{◌&&◌, not}
use Rattle.std.specs.Char.{is_ascii_digit}
use Rattle.std.specs.Fmt.{decimal}
use Rattle.std.specs.List.{AllByRecursion, list_all, slice_split}
use Rattle.std.proofs.lemmas.Bool.Decides.{nat_tests}
use Rattle.std.proofs.lemmas.Fmt.{digits_decimal}
use Rattle.std.proofs.lemmas.List.Splits.{slice_split-cons_yes, slice_split-cons_no}
use Rattle.counting.proofs.Booleans.{both}
use Rattle.counting.specs.Search.{◌<=◌}
use Rattle.design_base.specs.Limits.{HasFewDigits}
use Rattle.design_base.specs.declared.query.Group.TheVariants.{Cyclic, Field}
use Rattle.design_base.specs.declared.query.Query.{Query}
use Rattle.design_base.specs.declared.query.Query.TheVariants.{Td, Df, Bibd, Gdd, Pbd}
use Rattle.design_base.specs.declared.rule.Rule.{Rule}
use Rattle.design_base.specs.declared.rule.Rule.TheVariants.{TdOne}
use Rattle.design_base.specs.Rules.{title}
use Rattle.design_base.specs.Steps.{IsStep, Step, parameters_of}
use Rattle.design_io.specs.InputLines.{ended_line, is_feed, lines_of}
use Rattle.design_lines.specs.Grammar.{is_narrow}
use Rattle.design_lines.specs.Printed.{line_of, question_words, spaced, step_words}
use Rattle.design_lines.specs.Words.{is_space, spaced_words}
use Rattle.design_lines.proofs.Digits.{numerals}
use Rattle.derivation_text.specs.Text.{from_words}

abbrev is_clean : ℕ → Bool
is_clean byte = 33 <= byte

abbrev pub AreClean : List (List ℕ) → Type 0
AreClean words = AllByRecursion (λ w. list_all is_clean w ≡ true) words

no_space : (b : ℕ) → is_clean b ≡ true → is_space b ≡ false
no_space b h = grind (arith, nat_tests)

no_feed : (b : ℕ) → is_clean b ≡ true → is_feed b ≡ false
no_feed b h = grind (arith, nat_tests)

-- a word, and what stands behind the space at its end
word_split : (w rest : List ℕ) → list_all is_clean w ≡ true → slice_split is_space (w ++ 32 ∷ rest) ≡ w ∷ slice_split is_space rest
word_split [] rest clean = slice_split-cons_yes is_space 32 rest refl
word_split (b ∷ w) rest clean =
    let c = both (is_clean b) (list_all is_clean w) clean in
    slice_split-cons_no is_space b (w ++ 32 ∷ rest) (no_space b c.0) ∙ rw (word_split w rest c.1) refl

word_alone : (w : List ℕ) → list_all is_clean w ≡ true → slice_split is_space w ≡ w ∷ []
word_alone [] clean = refl
word_alone (b ∷ w) clean =
    let c = both (is_clean b) (list_all is_clean w) clean in
    slice_split-cons_no is_space b w (no_space b c.0) ∙ rw (word_alone w c.1) refl

-- joined words are taken apart again
pub words_apart : (w : List ℕ) (words : List (List ℕ)) → AreClean (w ∷ words) → spaced_words (spaced (w ∷ words)) ≡ w ∷ words
words_apart w [] clean = word_alone w clean.0
words_apart w (v ∷ words) clean = word_split w (spaced (v ∷ words)) clean.0 ∙ ap (λ ws. w ∷ ws) (words_apart v words clean.1)

-- a line without a line feed in it, and the one at its end
abbrev has_no_feed : List ℕ → Bool
has_no_feed bytes = list_all (λ b. not (is_feed b)) bytes

not_false : (b : Bool) → not b ≡ true → b ≡ false
not_false true e = cc
not_false false e = refl

first_line_of : (bytes rest : List ℕ) → has_no_feed bytes ≡ true → lines_of ((bytes ++ 10 ∷ []) ++ rest) ≡ ended_line bytes ∷ lines_of rest
unfolding lines_of
first_line_of [] rest none = refl
first_line_of (b ∷ bytes) rest none =
    let c = both (not (is_feed b)) (has_no_feed bytes) none in
    let e : is_feed b ≡ false = not_false (is_feed b) c.0 in
    rw (e, first_line_of bytes rest c.1) refl

clean_no_feed : (w : List ℕ) → list_all is_clean w ≡ true → has_no_feed w ≡ true
clean_no_feed [] clean = refl
clean_no_feed (b ∷ w) clean =
    let c = both (is_clean b) (list_all is_clean w) clean in
    rw (no_feed b c.0, clean_no_feed w c.1) refl

no_feed_append : (xs ys : List ℕ) → has_no_feed xs ≡ true → has_no_feed ys ≡ true → has_no_feed (xs ++ ys) ≡ true
no_feed_append [] ys a b = b
no_feed_append (x ∷ xs) ys a b =
    let c = both (not (is_feed x)) (has_no_feed xs) a in
    rw (c.0, no_feed_append xs ys c.1 b) refl

no_feed_spaced : (w : List ℕ) (words : List (List ℕ)) → AreClean (w ∷ words) → has_no_feed (spaced (w ∷ words)) ≡ true
no_feed_spaced w [] clean = clean_no_feed w clean.0
no_feed_spaced w (v ∷ words) clean = no_feed_append w (32 ∷ spaced (v ∷ words)) (clean_no_feed w clean.0) (no_feed_spaced v words clean.1)

-- a printed line of words stands first
pub printed_first : (w : List ℕ) (words : List (List ℕ)) (rest : List ℕ) → AreClean (w ∷ words) → lines_of (line_of (w ∷ words) ++ rest) ≡ ended_line (spaced (w ∷ words)) ∷ lines_of rest
printed_first w words rest clean = first_line_of (spaced (w ∷ words)) rest (no_feed_spaced w words clean)

-- The words of a line are clean.

digits_clean : (ds : List ℕ) → list_all is_ascii_digit ds ≡ true → list_all is_clean ds ≡ true
digits_clean [] h = refl
digits_clean (c ∷ ds) h =
    let d = both (is_ascii_digit c) (list_all is_ascii_digit ds) h in
    let clean : is_clean c ≡ true = (let digit = d.0 in grind (arith, nat_tests)) in
    rw (clean, digits_clean ds d.1) refl

pub decimal_clean : (n : ℕ) → HasFewDigits n → list_all is_clean (decimal n) ≡ true
decimal_clean n small = digits_clean (decimal n) (digits_decimal numerals n (omega (arith, small)))

clean_append : (xs ys : List (List ℕ)) → AreClean xs → AreClean ys → AreClean (xs ++ ys)
clean_append [] ys a b = b
clean_append (x ∷ xs) ys a b = (a.0, clean_append xs ys a.1 b)

numbers_clean : (ns : List ℕ) → AllByRecursion HasFewDigits ns → AreClean (map decimal ns)
numbers_clean [] small = tt
numbers_clean (n ∷ ns) small = (decimal_clean n small.0, numbers_clean ns small.1)

take_small : (k : ℕ) (ns : List ℕ) → AllByRecursion HasFewDigits ns → AllByRecursion HasFewDigits (take k ns)
take_small zero ns small = tt
take_small (suc k) [] small = tt
take_small (suc k) (n ∷ ns) small = (small.0, take_small k ns small.1)

narrow_clean : (n : ℕ) → (n <= 65535) ≡ true → list_all is_clean (decimal n) ≡ true
narrow_clean n h = decimal_clean n (grind (arith, nat_tests))

pair_clean : (a b : ℕ) → ((a <= 65535) && (b <= 65535)) ≡ true → AreClean (decimal a ∷ decimal b ∷ [])
pair_clean a b h = let c = both (a <= 65535) (b <= 65535) h in (narrow_clean a c.0, (narrow_clean b c.1, tt))

triple_clean : (a b e : ℕ) → ((a <= 65535) && (b <= 65535) && (e <= 65535)) ≡ true → AreClean (decimal a ∷ decimal b ∷ decimal e ∷ [])
triple_clean a b e h =
    let c = both ((a <= 65535) && (b <= 65535)) (e <= 65535) h in
    let d = both (a <= 65535) (b <= 65535) c.0 in
    (narrow_clean a d.0, (narrow_clean b d.1, (narrow_clean e c.1, tt)))

question_clean : (q : Query) → is_narrow q ≡ true → AreClean (question_words q)
unfolding question_words
question_clean (Td k n) h = (refl, pair_clean k n h)
question_clean (Df Cyclic v k l) h = (refl, (refl, triple_clean v k l h))
question_clean (Df Field v k l) h = (refl, (refl, triple_clean v k l h))
question_clean (Bibd v k l) h = (refl, triple_clean v k l h)
question_clean (Gdd k g u) h = (refl, triple_clean k g u h)
question_clean (Pbd v s) h = (refl, pair_clean v s h)

title_clean : (r : Rule) → list_all is_clean (title r).name ≡ true
title_clean TdOne = refl
title_clean r = refl

step_clean : (s : Step) → IsStep s → AreClean (step_words s)
unfolding step_words
step_clean s is = (
  title_clean s.rule,
  numbers_clean (parameters_of s) (take_small (title s.rule).parameters (s.a ∷ s.b ∷ s.c ∷ s.d ∷ [])
      (omega (arith, is.a_small), (omega (arith, is.b_small), (omega (arith, is.c_small), (omega (arith, is.d_small), tt))))),
)

from_clean : (numbers : List ℕ) → AllByRecursion HasFewDigits numbers → AreClean (from_words numbers)
unfolding from_words
from_clean [] small = tt
from_clean (n ∷ numbers) small = (refl, numbers_clean (n ∷ numbers) small)

-- those of a line with its number
pub line_clean : (i : ℕ) (q : Query) (s : Step) (from : List ℕ) → HasFewDigits i → is_narrow q ≡ true → IsStep s → AllByRecursion HasFewDigits from
    → AreClean (decimal i ∷ (question_words q ++ step_words s ++ from_words from))
line_clean i q s from small narrow is named =
    (decimal_clean i small, clean_append (question_words q ++ step_words s) (from_words from) (clean_append (question_words q) (step_words s) (question_clean q narrow) (step_clean s is)) (from_clean from named))
