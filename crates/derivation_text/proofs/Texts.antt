-- The lines of the text, as they are put together and written.
use Rattle.std.proofs.Common.{◌≡◌, ℕ, zero, suc, ◌+◌, ◌<◌, ◌≤◌, ◌^◌, false, List, [], ◌∷◌, ◌++◌, length, get_or, take, map, append-nil, ap, sym, ◌∙◌, arith, refl}
use Rattle.std.specs.Prelude.{◌==◌, codes}
use Rattle.std.specs.Fmt.{decimal}
use Rattle.std.specs.List.{flat_map}
use Rattle.std.proofs.lemmas.Fmt.{decimal_nonempty}
use Rattle.std.proofs.lemmas.List.Sums.{fold-append}
use Rattle.std.proofs.lemmas.List.{take_all}
use Rattle.std.proofs.lemmas.List.Concat.{flat_map-append}
use Rattle.derivations.specs.declared.line.Line.{Line}
use Rattle.design_lines.specs.Printed.{counted_line, line_of, question_words, spaced, step_words, with_word, with_words}
use Rattle.design_lines.proofs.Joined.{line_joined, some_question_words, some_step_words, spaced_pushed, with_words_more}
use Rattle.derivation_text.specs.Text.{derivation_lines, from_words, numbered_line, numbered_lines}

-- no number, and some
pub from_none : (line numbers : List ℕ) → length numbers ≡ 0 → line ≡ with_words line (from_words numbers)
unfolding from_words
from_none line [] none = refl
from_none line (n ∷ numbers) none = absurd (omega (arith, none))

from_some : (line numbers : List ℕ) → false ≡ (length numbers == 0) → with_words (with_word line (codes "from")) (map decimal numbers) ≡ with_words line (from_words numbers)
unfolding from_words
from_some line [] some = cc
from_some line (n ∷ numbers) some = refl

-- all of the numbers, where there are some
pub all_pushed : (line numbers text : List ℕ) (i : ℕ) → false ≡ (length numbers == 0) → length numbers ≤ i → text ≡ with_words (with_word line (codes "from")) (map decimal (take i numbers)) → text ≡ with_words line (from_words numbers)
all_pushed line numbers text i some all pushed =
    pushed ∙ ap (λ ns. with_words (with_word line (codes "from")) (map decimal ns)) (take_all i numbers all) ∙ from_some line numbers some

-- a word, two texts of words and words, pushed one after another
line_pushed : (first : List ℕ) (xs ys zs : List (List ℕ)) → 0 < length first → 0 < length xs → 0 < length ys
    → with_words (with_word (with_word first (spaced xs)) (spaced ys)) zs ++ 10 ∷ [] ≡ line_of (first ∷ (xs ++ ys ++ zs))
line_pushed first xs ys zs begun some others =
    let longer = with_words_more first xs in
    let joined : with_words first (xs ++ ys ++ zs) ++ 10 ∷ [] ≡ line_of (first ∷ (xs ++ ys ++ zs)) = line_joined first (xs ++ ys ++ zs) begun in
    ap (λ line. with_words (with_word line (spaced ys)) zs ++ 10 ∷ []) (spaced_pushed first xs begun some)
    ∙ ap (λ line. with_words line zs ++ 10 ∷ []) (spaced_pushed (with_words first xs) ys (omega (arith, longer, begun)) others)
    ∙ ap (λ line. line ++ 10 ∷ []) (ap (λ l. with_words l zs) (sym (fold-append with_word first xs ys)) ∙ sym (fold-append with_word first (xs ++ ys) zs))
    ∙ joined

-- what is pushed of a line is the line with its number
pub numbered_joined : (i : ℕ) (l : Line) → i < 2 ^ 64
    → with_words (with_word (with_word (decimal i) (spaced (question_words l.query))) (spaced (step_words l.step))) (from_words l.from) ++ 10 ∷ [] ≡ numbered_line i l
unfolding numbered_line
numbered_joined i l small =
    line_pushed (decimal i) (question_words l.query) (step_words l.step) (from_words l.from) (decimal_nonempty i small) (some_question_words l.query) (some_step_words l.step)

-- there are as many lines as the derivation has
numbered_length : (i : ℕ) (D : List Line) → length (numbered_lines i D) ≡ length D
unfolding numbered_lines
numbered_length i [] = refl
numbered_length i (l ∷ D) = let rest = numbered_length (i + 1) D in omega (arith, rest)

numbered_at : (i k : ℕ) (D : List Line) (d : Line) → k < length D → get_or (numbered_lines i D) k [] ≡ numbered_line (i + k) (get_or D k d)
unfolding numbered_lines
numbered_at i k [] d within = absurd (omega (arith, within))
numbered_at i zero (l ∷ D) d within = let e : i ≡ i + 0 = omega arith in ap (λ n. numbered_line n l) e
numbered_at i (suc k) (l ∷ D) d within =
    let e : i + 1 + k ≡ i + suc k = omega arith in
    numbered_at (i + 1) k D d (omega (arith, within)) ∙ ap (λ n. numbered_line n (get_or D k d)) e

-- the text of the line at a place, counted from 0
pub line_at : (D : List Line) (i : ℕ) (l : Line) (text : List ℕ) → i < length D → l ≡ get_or D i l → text ≡ numbered_line (i + 1) l → text ≡ get_or (numbered_lines 1 D) i []
line_at D i l text within there is =
    let e : i + 1 ≡ 1 + i = omega arith in
    is ∙ ap (λ n. numbered_line n l) e ∙ ap (λ (x : Line). numbered_line (1 + i) x) there ∙ sym (numbered_at 1 i D l within)

-- and it is within the lines
pub line_within : (D : List Line) (i : ℕ) → i < length D → i < length (numbered_lines 1 D)
line_within D i within = let size = numbered_length 1 D in omega (arith, size, within)

-- all of the lines
pub all_lines : (D : List Line) (i : ℕ) → length D ≤ i → take i (numbered_lines 1 D) ≡ numbered_lines 1 D
all_lines D i all = let size = numbered_length 1 D in take_all i (numbered_lines 1 D) (omega (arith, size, all))

-- the text is the first line, the numbered lines and the last
pub framed : (D : List Line) → flat_map (λ line. line) (derivation_lines D) ≡ counted_line (codes "derivation") 1 ++ (flat_map (λ line. line) (numbered_lines 1 D) ++ counted_line (codes "end") (length D))
unfolding derivation_lines
framed D =
    let last = counted_line (codes "end") (length D) in
    ap (λ text. counted_line (codes "derivation") 1 ++ text)
    (flat_map-append (λ line. line) (numbered_lines 1 D) (last ∷ []) ∙ ap (λ text. flat_map (λ line. line) (numbered_lines 1 D) ++ text) (append-nil last))
