-- The printed text of a derivation is read as that derivation.
use Rattle.std.proofs.Common.{◌≡◌, ℕ, ◌+◌, ◌<◌, ◌≤◌, Bool, true, false, List, [], ◌∷◌, ◌++◌, length, Some, refl, ap, sym, ◌∙◌, append_assoc, append-nil, length-append, arith}
use Rattle.std.specs.Prelude.{◌&&◌, ◌==◌, codes, OnOk, Result, Ok, Err}
use Rattle.std.specs.Char.{is_ascii_digit}
use Rattle.std.specs.Str.{bytes_eq}
use Rattle.std.specs.Fmt.{decimal}
use Rattle.std.specs.List.{AllByRecursion, flat_map, list_all}
use Rattle.std.proofs.lemmas.Fmt.{decimal_digit, digits_decimal}
use Rattle.std.proofs.lemmas.Bool.Decides.{nat_tests}
use Rattle.std.proofs.lemmas.List.Elements.{recursion_from_All}
use Rattle.counting.proofs.Booleans.{both}
use Rattle.counting.specs.Search.{◌<=◌}
use Rattle.design_base.specs.Limits.{HasFewDigits}
use Rattle.design_base.specs.declared.limits.TheConstants.{DERIVATION_MAX}
use Rattle.design_io.specs.InputLines.{ended_line, lines_of}
use Rattle.design_lines.specs.Printed.{counted_line, question_words, spaced, step_words}
use Rattle.design_lines.specs.Reading.{at_end, is_next, one_of_or}
use Rattle.design_lines.proofs.Digits.{numerals}
use Rattle.derivations.specs.Spelled.{IsSpellable}
use Rattle.derivations.specs.declared.line.Line.{Line}
use Rattle.derivation_text.specs.Grammar.{end_line, is_end, parse_behind, parse_text, parsed, spelled_line}
use Rattle.derivation_text.specs.Spelling.{IsKept, ReadBackLaw}
use Rattle.derivation_text.specs.Text.{derivation_lines, from_words, numbered_line, numbered_lines}
use Rattle.derivation_text.proofs.Clean.{AreClean, decimal_clean, line_clean, printed_first, words_apart}
use Rattle.derivation_text.proofs.Readings.{behind_end, behind_more}
use Rattle.derivation_text.proofs.Words.{line_is_read, number_read}

abbrev words_of_line : Line → List (List ℕ)
words_of_line l = question_words l.query ++ step_words l.step ++ from_words l.from

kept_clean : (i : ℕ) (l : Line) → HasFewDigits i → IsKept l → IsSpellable l → AreClean (decimal i ∷ words_of_line l)
kept_clean i l small kept good = line_clean i l.query l.step l.from small kept.narrow kept.step (recursion_from_All HasFewDigits l.from good.small)

-- A numbered line is no line `end`, and is read.

not_end : (ds : List ℕ) → list_all is_ascii_digit ds ≡ true → bytes_eq ds (codes "end") ≡ false
not_end [] h = refl
not_end (c ∷ ds) h =
    let digit = (both (is_ascii_digit c) (list_all is_ascii_digit ds) h).0 in
    let other : (c == 101) ≡ false = grind (arith, nat_tests) in
    rw other refl

and_false : (a : Bool) → (a && false) ≡ false
and_false true = refl
and_false false = refl

numbered_no_end : (count i : ℕ) (words : List (List ℕ)) → HasFewDigits i → AreClean (decimal i ∷ words) → is_end count (ended_line (spaced (decimal i ∷ words))) ≡ false
unfolding is_end end_line one_of_or is_next
numbered_no_end count i words small clean =
    rw (words_apart (decimal i) words clean, not_end (decimal i) (digits_decimal numerals i (omega (arith, small)))) (and_false (1 <= count))

numbered_spelled : (i : ℕ) (l : Line) → HasFewDigits i → IsKept l → IsSpellable l → spelled_line i (ended_line (spaced (decimal i ∷ words_of_line l))) ≡ Some l
unfolding spelled_line at_end
numbered_spelled i l small kept good =
    rw (
      words_apart (decimal i) (words_of_line l) (kept_clean i l small kept good),
      (line_is_read i l small kept.narrow kept.step good.kind good.few (recursion_from_All HasFewDigits l.from good.small)).1,
    ) refl

some_count : (count : ℕ) → 0 < count → (1 <= count) ≡ true
some_count count some = grind (arith, nat_tests)

same_count : (count : ℕ) → (count == count) ≡ true
same_count count = grind (arith, nat_tests)

end_is_end : (count : ℕ) → 0 < count → HasFewDigits count → is_end count (ended_line (spaced (codes "end" ∷ decimal count ∷ []))) ≡ true
unfolding is_end end_line one_of_or is_next at_end
end_is_end count some small =
    rw (words_apart (codes "end") (decimal count ∷ []) (refl, (decimal_clean count small, tt)), number_read count 2 [] small, some_count count some, same_count count) refl

-- Line by line.

lines_read : (E D : List Line) (i total : ℕ) → i ≡ length D + 1 → total ≡ length D + length E → 0 < total → total ≤ DERIVATION_MAX → AllByRecursion IsKept E → AllByRecursion IsSpellable E
    → parse_behind D (lines_of (flat_map (λ line. line) (numbered_lines i E ++ counted_line (codes "end") total ∷ []))) ≡ parsed (D ++ E) []
unfolding numbered_lines numbered_line counted_line lines_of
lines_read [] D i total at all some few kept good =
    let count : total ≡ length D = omega (arith, all) in
    let small : HasFewDigits total = omega (arith, few) in
    let first = printed_first (codes "end") (decimal total ∷ []) [] (refl, (decimal_clean total small, tt)) in
    behind_end _ D _ [] (ended_line (spaced (codes "end" ∷ decimal total ∷ []))) total refl first count (end_is_end total some small) ∙ ap (λ ls. parsed ls []) (sym (append-nil D))
lines_read (l ∷ E) D i total at all some few kept good =
    let rest = flat_map (λ line. line) (numbered_lines (i + 1) E ++ counted_line (codes "end") total ∷ []) in
    let small : HasFewDigits i = omega (arith, at, all, few) in
    let words = words_of_line l in
    let clean = kept_clean i l small kept.0 good.0 in
    let size = length-append D (l ∷ []) in
    let spelled : spelled_line (length D + 1) (ended_line (spaced (decimal i ∷ words))) ≡ Some l = rw (sym at) (numbered_spelled i l small kept.0 good.0) in
    behind_more _ D (D ++ l ∷ []) _ (lines_of rest) (ended_line (spaced (decimal i ∷ words))) l (length D) refl (printed_first (decimal i) words rest clean) refl (numbered_no_end (length D) i words small clean)
    (omega (arith, all, few)) spelled refl
    ∙ lines_read E (D ++ l ∷ []) (i + 1) total (omega (arith, at, size)) (omega (arith, all, size)) some few kept.1 good.1
    ∙ ap (λ ls. parsed ls []) (append_assoc D (l ∷ []) E)

-- What is printed of spellable lines is read back.
pub each_text_is_read : ReadBackLaw
unfolding derivation_lines counted_line parse_text
each_text_is_read D kept some few good =
    let rest = flat_map (λ line. line) (numbered_lines 1 D ++ counted_line (codes "end") (length D) ∷ []) in
    let one : decimal 1 ≡ 49 ∷ [] = decimal_digit 1 (omega arith) in
    let clean : AreClean (codes "derivation" ∷ decimal 1 ∷ []) = (refl, (decimal_clean 1 (omega arith), tt)) in
    rw (
      printed_first (codes "derivation") (decimal 1 ∷ []) rest clean,
      one,
      lines_read D [] 1 (length D) (omega arith) (omega arith) some few (recursion_from_All IsKept D kept) (recursion_from_All IsSpellable D good),
    ) refl

pub ok_any : {T E : Type 0} (r : Result T E) (P : Type 0) → P → OnOk r P
ok_any (Ok x) P p = p
ok_any (Err e) P p = tt
