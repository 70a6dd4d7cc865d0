-- The words of a line are taken from its front.
use Rattle.std.proofs.Common.{◌≡◌, ℕ, ◌+◌, ◌<◌, ◌≤◌, Bool, true, false, cond, List, [], ◌∷◌, length, take, drop, length-take, arith, refl, ap, sym, ◌∙◌, suc, subst}
use Rattle.std.specs.Prelude.{not, filter, take_while}
use Rattle.std.specs.List.{slice_split, onto_first, prefix_len}
use Rattle.std.proofs.lemmas.List.Splits.{slice_split-cons_yes, slice_split-cons_no}
use Rattle.std.proofs.lemmas.List.Sums.{take_while-cons}
use Rattle.counting.proofs.Booleans.{le-leb}
use Rattle.design_lines.specs.Words.{words_of, is_blank, is_in_word, is_not_empty}

-- how many elements pass before the first that fails
abbrev run : (ℕ → Bool) → List ℕ → ℕ
run p xs = length (take_while p xs)

run-yes : (p : ℕ → Bool) (c : ℕ) (xs : List ℕ) → p c ≡ true → run p (c ∷ xs) ≡ suc (run p xs)
run-yes p c xs h = ap length (take_while-cons p c xs) ∙ ap (λ b. length (cond b (c ∷ take_while p xs) [])) h

run-no : (p : ℕ → Bool) (c : ℕ) (xs : List ℕ) → p c ≡ false → run p (c ∷ xs) ≡ 0
run-no p c xs h = ap length (take_while-cons p c xs) ∙ ap (λ b. length (cond b (c ∷ take_while p xs) [])) h

drop_run-yes : (p : ℕ → Bool) (c : ℕ) (xs : List ℕ) → p c ≡ true → drop (run p (c ∷ xs)) (c ∷ xs) ≡ drop (run p xs) xs
drop_run-yes p c xs h = ap (λ n. drop n (c ∷ xs)) (run-yes p c xs h)

drop_run-no : (p : ℕ → Bool) (c : ℕ) (xs : List ℕ) → p c ≡ false → drop (run p (c ∷ xs)) (c ∷ xs) ≡ c ∷ xs
drop_run-no p c xs h = ap (λ n. drop n (c ∷ xs)) (run-no p c xs h)

take_run-yes : (p : ℕ → Bool) (c : ℕ) (xs : List ℕ) → p c ≡ true → take (run p (c ∷ xs)) (c ∷ xs) ≡ c ∷ take (run p xs) xs
take_run-yes p c xs h = ap (λ n. take n (c ∷ xs)) (run-yes p c xs h)

take_run-no : (p : ℕ → Bool) (c : ℕ) (xs : List ℕ) → p c ≡ false → take (run p (c ∷ xs)) (c ∷ xs) ≡ []
take_run-no p c xs h = ap (λ n. take n (c ∷ xs)) (run-no p c xs h)

-- a blank begins no word
pub words_behind_blank : (c : ℕ) (xs : List ℕ) → is_blank c ≡ true → words_of (c ∷ xs) ≡ words_of xs
unfolding words_of
words_behind_blank c xs h = ap (filter is_not_empty) (slice_split-cons_yes is_blank c xs h)

behind_blanks : (xs : List ℕ) → words_of (drop (run is_blank xs) xs) ≡ words_of xs
behind_blanks [] = refl
behind_blanks (c ∷ xs) = split (is_blank c) refl (behind_blanks xs)
  where
    split : (b : Bool) → is_blank c ≡ b → words_of (drop (run is_blank xs) xs) ≡ words_of xs → words_of (drop (run is_blank (c ∷ xs)) (c ∷ xs)) ≡ words_of (c ∷ xs)
    split true h rest = ap words_of (drop_run-yes is_blank c xs h) ∙ rest ∙ sym (words_behind_blank c xs h)
    split false h rest = ap words_of (drop_run-no is_blank c xs h)

-- the parts behind a first one, where that was not all
abbrev later : List ℕ → List (List ℕ)
later [] = []
later (c ∷ xs) = slice_split is_blank xs

first_part : (xs : List ℕ) → slice_split is_blank xs ≡ take (run is_in_word xs) xs ∷ later (drop (run is_in_word xs) xs)
first_part [] = refl
first_part (c ∷ xs) = split (is_blank c) refl (first_part xs)
  where
    split : (b : Bool) → is_blank c ≡ b → slice_split is_blank xs ≡ take (run is_in_word xs) xs ∷ later (drop (run is_in_word xs) xs)
        → slice_split is_blank (c ∷ xs) ≡ take (run is_in_word (c ∷ xs)) (c ∷ xs) ∷ later (drop (run is_in_word (c ∷ xs)) (c ∷ xs))
    split true h rest =
        let no : is_in_word c ≡ false = ap not h in
        slice_split-cons_yes is_blank c xs h ∙ sym (ap (λ w. w ∷ later (drop (run is_in_word (c ∷ xs)) (c ∷ xs))) (take_run-no is_in_word c xs no) ∙ ap (λ l. [] ∷ later l) (drop_run-no is_in_word c xs no))
    split false h rest =
        let yes : is_in_word c ≡ true = ap not h in
        slice_split-cons_no is_blank c xs h ∙ ap (onto_first c) rest ∙ sym (ap (λ w. w ∷ later (drop (run is_in_word (c ∷ xs)) (c ∷ xs))) (take_run-yes is_in_word c xs yes) ∙ ap (λ l. (c ∷ take (run is_in_word xs) xs) ∷ later l) (drop_run-yes is_in_word c xs yes))

later_words : (xs : List ℕ) → filter is_not_empty (later (drop (run is_in_word xs) xs)) ≡ words_of (drop (run is_in_word xs) xs)
unfolding words_of
later_words [] = refl
later_words (c ∷ xs) = split (is_blank c) refl (later_words xs)
  where
    split : (b : Bool) → is_blank c ≡ b → filter is_not_empty (later (drop (run is_in_word xs) xs)) ≡ words_of (drop (run is_in_word xs) xs)
        → filter is_not_empty (later (drop (run is_in_word (c ∷ xs)) (c ∷ xs))) ≡ words_of (drop (run is_in_word (c ∷ xs)) (c ∷ xs))
    split true h rest =
        let e : drop (run is_in_word (c ∷ xs)) (c ∷ xs) ≡ c ∷ xs = drop_run-no is_in_word c xs (ap not h) in
        ap (λ l. filter is_not_empty (later l)) e ∙ sym (words_behind_blank c xs h) ∙ sym (ap words_of e)
    split false h rest =
        let e : drop (run is_in_word (c ∷ xs)) (c ∷ xs) ≡ drop (run is_in_word xs) xs = drop_run-yes is_in_word c xs (ap not h) in
        ap (λ l. filter is_not_empty (later l)) e ∙ rest ∙ sym (ap words_of e)

-- a word first
words_from : (xs : List ℕ) → 0 < run is_in_word xs → words_of xs ≡ take (run is_in_word xs) xs ∷ words_of (drop (run is_in_word xs) xs)
unfolding words_of
words_from xs h =
    let l : 1 ≤ length (take (run is_in_word xs) xs) = omega (arith, h, length-take (prefix_len is_in_word xs) xs, length-take (run is_in_word xs) xs) in
    ap (filter is_not_empty) (first_part xs) ∙ ap (λ b. cond b (take (run is_in_word xs) xs ∷ filter is_not_empty (later (drop (run is_in_word xs) xs))) (filter is_not_empty (later (drop (run is_in_word xs) xs)))) (le-leb 1 _ l) ∙ ap (λ ws. take (run is_in_word xs) xs ∷ ws) (later_words xs)

run_behind_blanks : (xs : List ℕ) → 0 < length (drop (run is_blank xs) xs) → 0 < run is_in_word (drop (run is_blank xs) xs)
run_behind_blanks [] h = h
run_behind_blanks (c ∷ xs) h = split (is_blank c) refl (run_behind_blanks xs)
  where
    split : (b : Bool) → is_blank c ≡ b → (0 < length (drop (run is_blank xs) xs) → 0 < run is_in_word (drop (run is_blank xs) xs)) → 0 < run is_in_word (drop (run is_blank (c ∷ xs)) (c ∷ xs))
    split true e rest =
        let d : drop (run is_blank (c ∷ xs)) (c ∷ xs) ≡ drop (run is_blank xs) xs = drop_run-yes is_blank c xs e in
        let P : List ℕ → Type 0 = λ l. 0 < run is_in_word l in
        let Q : List ℕ → Type 0 = λ l. 0 < length l in
        subst P (sym d) (rest (subst Q d h))
    split false e rest =
        let d : drop (run is_blank (c ∷ xs)) (c ∷ xs) ≡ c ∷ xs = drop_run-no is_blank c xs e in
        let P : List ℕ → Type 0 = λ l. 0 < run is_in_word l in
        let r : run is_in_word (c ∷ xs) ≡ suc (run is_in_word xs) = run-yes is_in_word c xs (ap not e) in
        let pos : 0 < run is_in_word (c ∷ xs) = omega (arith, r) in
        subst P (sym d) pos

-- there is no word where the line is blank
pub no_first_word : (line rest : List ℕ) → rest ≡ drop (run is_blank line) line → length rest ≡ 0 → words_of line ≡ []
unfolding words_of
no_first_word line [] e h = sym (behind_blanks line) ∙ ap words_of (sym e)
no_first_word line (c ∷ rest) e h = absurd (omega (arith, h))

-- the first word begins behind the blanks, and ends before the next blank
pub first_word_is : (line rest : List ℕ) → rest ≡ drop (run is_blank line) line → 0 < length rest → words_of line ≡ take (run is_in_word rest) rest ∷ words_of (drop (run is_in_word rest) rest)
first_word_is line rest e h =
    let Q : List ℕ → Type 0 = λ l. 0 < length l in
    let P : List ℕ → Type 0 = λ l. 0 < run is_in_word l in
    sym (behind_blanks line) ∙ ap words_of (sym e) ∙ words_from rest (subst P (sym e) (run_behind_blanks line (subst Q e h)))

at_most_one_more : (a b : Bool) (x y : List ℕ) (rest : List (List ℕ)) → length (cond a (x ∷ rest) rest) ≤ length (cond b (y ∷ rest) rest) + 1
at_most_one_more true true x y rest = omega arith
at_most_one_more true false x y rest = omega arith
at_most_one_more false true x y rest = omega arith
at_most_one_more false false x y rest = omega arith

-- each word has a byte
few_parts : (line : List ℕ) → length (filter is_not_empty (slice_split is_blank line)) ≤ length line
few_parts [] = omega arith
few_parts (c ∷ xs) = split (is_blank c) refl (few_parts xs)
  where
    longer : (parts : List (List ℕ)) → length (filter is_not_empty (onto_first c parts)) ≤ length (filter is_not_empty parts) + 1
    longer [] = omega arith
    longer (part ∷ parts) = at_most_one_more (is_not_empty (c ∷ part)) (is_not_empty part) (c ∷ part) part (filter is_not_empty parts)

    split : (b : Bool) → is_blank c ≡ b → length (filter is_not_empty (slice_split is_blank xs)) ≤ length xs → length (filter is_not_empty (slice_split is_blank (c ∷ xs))) ≤ length (c ∷ xs)
    split true h rest =
        let e : filter is_not_empty (slice_split is_blank (c ∷ xs)) ≡ filter is_not_empty (slice_split is_blank xs) = ap (filter is_not_empty) (slice_split-cons_yes is_blank c xs h) in
        omega (arith, ap length e, rest)
    split false h rest =
        let e : filter is_not_empty (slice_split is_blank (c ∷ xs)) ≡ filter is_not_empty (onto_first c (slice_split is_blank xs)) = ap (filter is_not_empty) (slice_split-cons_no is_blank c xs h) in
        omega (arith, ap length e, longer (slice_split is_blank xs), rest)

pub few_words : (line : List ℕ) → length (words_of line) ≤ length line
unfolding words_of
few_words line = few_parts line
