-- Words that are pushed one after another stand with one space between each two.
use Rattle.std.proofs.Common.{◌≡◌, ℕ, ◌+◌, ◌<◌, ◌≤◌, List, [], ◌∷◌, ◌++◌, length, length-append, take, get_or, map, append_assoc, append-nil, arith, ap, sym, ◌∙◌}
use Rattle.std.specs.Fmt.{decimal}
use Rattle.std.specs.List.{flat_map}
use Rattle.std.proofs.lemmas.List.{take_more, map-append}
use Rattle.std.proofs.lemmas.List.Sums.{fold_push}
use Rattle.design_base.specs.declared.query.Query.{Query}
use Rattle.design_base.specs.declared.query.Query.TheVariants.{Td, Df, Bibd, Gdd, Pbd}
use Rattle.design_base.specs.Steps.{Step}
use Rattle.design_lines.specs.Printed.{line_of, question_words, spaced, step_words, with_word, with_words}

-- one more number
pub numbers_more : (line : List ℕ) (xs : List ℕ) (i : ℕ) → i < length xs → with_words line (map decimal (take (i + 1) xs)) ≡ with_word (with_words line (map decimal (take i xs))) (decimal (get_or xs i 0))
numbers_more line xs i h =
    ap (λ l. with_words line (map decimal l)) (take_more xs i 0 h) ∙ ap (with_words line) (map-append decimal (take i xs) (get_or xs i 0 ∷ [])) ∙ fold_push with_word line (map decimal (take i xs)) (decimal (get_or xs i 0))

-- the words, each with a space before it
abbrev pub behind_spaces : List (List ℕ) → List ℕ
behind_spaces words = flat_map (λ word. 32 ∷ word) words

with_words_behind : (c : ℕ) (line : List ℕ) (words : List (List ℕ)) → with_words (c ∷ line) words ≡ (c ∷ line) ++ behind_spaces words
with_words_behind c line [] = sym (append-nil (c ∷ line))
with_words_behind c line (word ∷ words) = with_words_behind c (line ++ 32 ∷ word) words ∙ append_assoc (c ∷ line) (32 ∷ word) (behind_spaces words)

pub spaced_behind : (word : List ℕ) (words : List (List ℕ)) → spaced (word ∷ words) ≡ word ++ behind_spaces words
spaced_behind word [] = sym (append-nil word)
spaced_behind word (next ∷ words) = ap (λ l. word ++ 32 ∷ l) (spaced_behind next words)

-- words that are pushed on an empty line, of which the first is not empty, are joined
pub words_joined : (word : List ℕ) (words : List (List ℕ)) → 0 < length word → with_words [] (word ∷ words) ≡ spaced (word ∷ words)
words_joined [] words h = absurd (omega (arith, h))
words_joined (c ∷ word) words h = with_words_behind c word words ∙ sym (spaced_behind (c ∷ word) words)

-- a line of words that were pushed on an empty one
pub line_joined : (word : List ℕ) (words : List (List ℕ)) → 0 < length word → with_words [] (word ∷ words) ++ 10 ∷ [] ≡ line_of (word ∷ words)
line_joined word words h = ap (λ line. line ++ 10 ∷ []) (words_joined word words h)

-- a line of two words
pub line_of_two : (word next : List ℕ) → 0 < length word → with_word word next ++ 10 ∷ [] ≡ line_of (word ∷ next ∷ [])
line_of_two word next h = line_joined word (next ∷ []) h

-- joined words that are pushed as one come to the same
pub with_word-spaced : (line word : List ℕ) (words : List (List ℕ)) → 0 < length line → with_word line (spaced (word ∷ words)) ≡ with_words line (word ∷ words)
with_word-spaced [] word words h = absurd (omega (arith, h))
with_word-spaced (c ∷ line) word words h =
    ap (λ l. (c ∷ line) ++ 32 ∷ l) (spaced_behind word words) ∙ sym (with_words_behind c line (word ∷ words))

-- no line gets shorter
with_word_more : (line word : List ℕ) → length line ≤ length (with_word line word)
with_word_more [] word = omega arith
with_word_more (c ∷ line) word = omega (arith, length-append (c ∷ line) (32 ∷ word))

pub with_words_more : (line : List ℕ) (words : List (List ℕ)) → length line ≤ length (with_words line words)
with_words_more line [] = omega arith
with_words_more line (word ∷ words) = let one = with_word_more line word in let rest = with_words_more (with_word line word) words in omega (arith, one, rest)

-- the same of any words, where there are some
pub spaced_pushed : (line : List ℕ) (words : List (List ℕ)) → 0 < length line → 0 < length words → with_word line (spaced words) ≡ with_words line words
spaced_pushed line [] begun some = absurd (omega (arith, some))
spaced_pushed line (word ∷ words) begun some = with_word-spaced line word words begun

-- a question and a step have words
pub some_question_words : (q : Query) → 0 < length (question_words q)
unfolding question_words
some_question_words (Td k n) = omega arith
some_question_words (Df group v k l) = omega arith
some_question_words (Bibd v k l) = omega arith
some_question_words (Gdd k g u) = omega arith
some_question_words (Pbd v s) = omega arith

pub some_step_words : (s : Step) → 0 < length (step_words s)
unfolding step_words
some_step_words s = omega arith
