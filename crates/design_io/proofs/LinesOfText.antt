-- The lines of a text, taken from its front.
use Rattle.std.proofs.Common.{append_assoc, Option, Some, None, Ok, Err, inl, inr, ◌⊎◌, min, append-nil, IfSome, length-take, ◌≡◌, ℕ, suc, ◌+◌, ◌<◌, ◌≤◌, Bool, true, false, cond, List, [], ◌∷◌, ◌++◌, length, take, drop, refl, ap, sym, ◌∙◌, arith}
use Rattle.std.specs.List.{position_or_len}
use Rattle.std.specs.Prelude.{nat_lt}
use Rattle.std.specs.Io.KnownBytes.{IsAtEnd, Keeps, prepend_known}
use Rattle.counting.proofs.Booleans.{cases_lt}
use Rattle.std.proofs.lemmas.Bool.Decides.{nat_tests}
use Rattle.std.proofs.lemmas.List.{take_all, drop_all}
use Rattle.std.proofs.lemmas.List.Sums.{sum_by-append}
use Rattle.design_base.specs.declared.limits.TheConstants.{LINE_MAX}
use Rattle.design_io.specs.declared.lines.LineEnd.TheVariants.{TooLong}
use Rattle.design_io.specs.InputLines.{InputLine, LinesRead, GivesFrom, first_line, next_line, too_long, fits, is_feed, ended_line, cut_line, with_byte, feeds_in, lines_of, bytes_of, size_of}

place-yes : (b : ℕ) (xs : List ℕ) → is_feed b ≡ true → position_or_len is_feed (b ∷ xs) ≡ 0
place-yes b xs h = rw h refl

place-no : (b : ℕ) (xs : List ℕ) → is_feed b ≡ false → position_or_len is_feed (b ∷ xs) ≡ suc (position_or_len is_feed xs)
place-no b xs h = rw h (omega arith)

lines-yes : (b : ℕ) (xs : List ℕ) → is_feed b ≡ true → lines_of (b ∷ xs) ≡ ended_line [] ∷ lines_of xs
unfolding lines_of
lines-yes b xs h = rw h refl

pub lines-no : (b : ℕ) (xs : List ℕ) → is_feed b ≡ false → lines_of (b ∷ xs) ≡ with_byte b (lines_of xs)
unfolding lines_of
lines-no b xs h = rw h refl

-- a line that a line feed ends stands in front
pub line_ended : (xs ys : List ℕ) → position_or_len is_feed xs < length xs
    → lines_of (xs ++ ys) ≡ ended_line (take (position_or_len is_feed xs) xs) ∷ lines_of (drop (suc (position_or_len is_feed xs)) xs ++ ys)
line_ended [] ys h = absurd (omega (arith, h))
line_ended (b ∷ xs) ys h = of (is_feed b) refl (line_ended xs ys)
  where
    of : (t : Bool) → is_feed b ≡ t
        → (position_or_len is_feed xs < length xs → lines_of (xs ++ ys) ≡ ended_line (take (position_or_len is_feed xs) xs) ∷ lines_of (drop (suc (position_or_len is_feed xs)) xs ++ ys))
        → lines_of (b ∷ xs ++ ys) ≡ ended_line (take (position_or_len is_feed (b ∷ xs)) (b ∷ xs)) ∷ lines_of (drop (suc (position_or_len is_feed (b ∷ xs))) (b ∷ xs) ++ ys)
    of true e rest =
        lines-yes b (xs ++ ys) e ∙ sym (ap (λ n. ended_line (take n (b ∷ xs)) ∷ lines_of (drop (suc n) (b ∷ xs) ++ ys)) (place-yes b xs e))
    of false e rest =
        let p = place-no b xs e in
        lines-no b (xs ++ ys) e ∙ ap (with_byte b) (rest (omega (arith, h, p)))
        ∙ sym (ap (λ n. ended_line (take n (b ∷ xs)) ∷ lines_of (drop (suc n) (b ∷ xs) ++ ys)) p)

-- where there is no line feed, all is one line
pub line_cut : (b : ℕ) (xs : List ℕ) → length (b ∷ xs) ≤ position_or_len is_feed (b ∷ xs) → lines_of (b ∷ xs) ≡ cut_line (b ∷ xs) ∷ []
unfolding lines_of
line_cut b [] h = of (is_feed b) refl
  where
    of : (t : Bool) → is_feed b ≡ t → lines_of (b ∷ []) ≡ cut_line (b ∷ []) ∷ []
    of true e = absurd (omega (arith, h, place-yes b [] e))
    of false e = lines-no b [] e
line_cut b (c ∷ xs) h = of (is_feed b) refl (line_cut c xs)
  where
    of : (t : Bool) → is_feed b ≡ t → (length (c ∷ xs) ≤ position_or_len is_feed (c ∷ xs) → lines_of (c ∷ xs) ≡ cut_line (c ∷ xs) ∷ []) → lines_of (b ∷ c ∷ xs) ≡ cut_line (b ∷ c ∷ xs) ∷ []
    of true e rest = absurd (omega (arith, h, place-yes b (c ∷ xs) e))
    of false e rest = lines-no b (c ∷ xs) e ∙ ap (with_byte b) (rest (omega (arith, h, place-no b (c ∷ xs) e)))

-- the bytes of the first of the lines
abbrev first_bytes : List InputLine → List ℕ
first_bytes [] = []
first_bytes (l ∷ lines) = l.bytes

first_bytes-with_byte : (b : ℕ) (lines : List InputLine) → first_bytes (with_byte b lines) ≡ b ∷ first_bytes lines
first_bytes-with_byte b [] = refl
first_bytes-with_byte b (l ∷ lines) = refl

-- bytes without a line feed all stand in the first line
long_line : (xs ys : List ℕ) → length xs ≤ position_or_len is_feed xs → length xs ≤ length (first_bytes (lines_of (xs ++ ys)))
long_line [] ys h = omega arith
long_line (b ∷ xs) ys h = of (is_feed b) refl (long_line xs ys)
  where
    of : (t : Bool) → is_feed b ≡ t → (length xs ≤ position_or_len is_feed xs → length xs ≤ length (first_bytes (lines_of (xs ++ ys)))) → length (b ∷ xs) ≤ length (first_bytes (lines_of (b ∷ xs ++ ys)))
    of true e rest = absurd (omega (arith, h, place-yes b xs e))
    of false e rest =
        let size = ap length (ap first_bytes (lines-no b (xs ++ ys) e) ∙ first_bytes-with_byte b (lines_of (xs ++ ys))) in
        omega (arith, size, rest (omega (arith, h, place-no b xs e)))

pub does_fit : (room : ℕ) (l : InputLine) → length l.bytes ≤ LINE_MAX → size_of l ≤ room → fits room l ≡ true
does_fit room l short within = grind (arith, nat_tests)

pub not_fit : (room : ℕ) (l : InputLine) → LINE_MAX < length l.bytes ⊎ room < size_of l → fits room l ≡ false
not_fit room l h = grind (arith, nat_tests)

fitting : (room : ℕ) (l : InputLine) (lines : List InputLine) → fits room l ≡ true → first_line room (l ∷ lines) ≡ next_line l lines
fitting room l lines h = rw h refl

pub not_fitting : (room : ℕ) (l : InputLine) (lines : List InputLine) → fits room l ≡ false → first_line room (l ∷ lines) ≡ too_long
not_fitting room l lines h = rw h refl

first_too_long : (room : ℕ) (lines : List InputLine) → LINE_MAX < length (first_bytes lines) → first_line room lines ≡ too_long
first_too_long room [] h = absurd (omega (arith, h))
first_too_long room (l ∷ lines) h = not_fitting room l lines (not_fit room l (inl h))

-- a line that a line feed ends is given
ended_given : (room : ℕ) (window ys : List ℕ) (place size : ℕ) → place ≡ position_or_len is_feed window → size ≡ min (place + 1) (length window) → place < length window → place ≤ LINE_MAX → size ≤ room
    → first_line room (lines_of (window ++ ys)) ≡ next_line (record { bytes = take place window; is_ended = nat_lt place size }) (lines_of (drop size window ++ ys))
ended_given room window ys place size is long more short within =
    let line = ended_line (take place window) in
    let e : size ≡ suc place = omega (arith, long, more) in
    let n : length (take place window) ≡ place = omega (arith, length-take place window, more) in
    let ended : true ≡ nat_lt place size = grind (arith, nat_tests, e) in
    let lines : lines_of (window ++ ys) ≡ line ∷ lines_of (drop (suc place) window ++ ys) = rw is (line_ended window ys (omega (arith, is, more))) in
    ap (first_line room) lines
    ∙ fitting room line (lines_of (drop (suc place) window ++ ys)) (does_fit room line (omega (arith, n, short)) (omega (arith, n, e, within)))
    ∙ ap (λ b. next_line (record { bytes = take place window; is_ended = b }) (lines_of (drop (suc place) window ++ ys))) ended
    ∙ ap (λ k. next_line (record { bytes = take place window; is_ended = nat_lt place size }) (lines_of (drop k window ++ ys))) (sym e)

-- and so is the last one
cut_given : (room : ℕ) (window : List ℕ) (place size : ℕ) → place ≡ position_or_len is_feed window → size ≡ place → length window ≡ place → 0 < place → place ≤ LINE_MAX → size ≤ room
    → first_line room (lines_of window) ≡ next_line (record { bytes = take place window; is_ended = nat_lt place size }) (lines_of (drop size window))
unfolding lines_of
cut_given room [] place size is e all some short within = absurd (omega (arith, all, some))
cut_given room (b ∷ xs) place size is e all some short within =
    let window = b ∷ xs in
    let ended : false ≡ nat_lt place size = grind (arith, nat_tests, e) in
    let none : drop size window ≡ [] = drop_all size window (omega (arith, e, all)) in
    ap (first_line room) (line_cut b xs (omega (arith, is, all)))
    ∙ fitting room (cut_line window) [] (does_fit room (cut_line window) (omega (arith, all, short)) (omega (arith, all, e, within)))
    ∙ ap (λ bytes. next_line (cut_line bytes) []) (sym (take_all place window (omega (arith, all))))
    ∙ ap (λ t. next_line (record { bytes = take place window; is_ended = t }) []) ended
    ∙ ap (λ rest. next_line (record { bytes = take place window; is_ended = nat_lt place size }) (lines_of rest)) (sym none)

-- the line in front of a window is given
front_given : (room : ℕ) (window ys : List ℕ) (place size : ℕ) → place ≡ position_or_len is_feed window → size ≡ min (place + 1) (length window) → place ≤ length window
    → (length window ≤ place → place ≤ LINE_MAX → ys ≡ []) → 0 < length window → place ≤ LINE_MAX → size ≤ room
    → first_line room (lines_of (window ++ ys)) ≡ next_line (record { bytes = take place window; is_ended = nat_lt place size }) (lines_of (drop size window ++ ys))
front_given room window ys place size is long inside whole some short within = elim (cases_lt place (length window)) [
  | inl more ↦ ended_given room window ys place size is long more short within
  | inr all ↦ (
      let none : ys ≡ [] = whole all short in
      ap (λ l. first_line room (lines_of (window ++ l))) none
      ∙ ap (λ l. first_line room (lines_of l)) (append-nil window)
      ∙ cut_given room window place size is (omega (arith, long, inside, all)) (omega (arith, inside, all)) (omega (arith, some, all, inside)) short within
      ∙ sym (ap (λ l. next_line (record { bytes = take place window; is_ended = nat_lt place size }) (lines_of l)) (ap (λ l. drop size window ++ l) none ∙ append-nil (drop size window)))
      )
]

-- or it is too long
front_refused : (room : ℕ) (window ys : List ℕ) (place size : ℕ) → place ≡ position_or_len is_feed window → size ≡ min (place + 1) (length window) → place ≤ length window
    → (length window ≤ place → place ≤ LINE_MAX → ys ≡ []) → 0 < length window → LINE_MAX < place ⊎ room < size
    → first_line room (lines_of (window ++ ys)) ≡ too_long
front_refused room window ys place size is long inside whole some much = elim (cases_lt place (length window)) [
  | inl more ↦ (
      let line = ended_line (take place window) in
      let e : size ≡ suc place = omega (arith, long, more) in
      let n : length (take place window) ≡ place = omega (arith, length-take place window, more) in
      let lines : lines_of (window ++ ys) ≡ line ∷ lines_of (drop (suc place) window ++ ys) = rw is (line_ended window ys (omega (arith, is, more))) in
      let over : LINE_MAX < length line.bytes ⊎ room < size_of line = elim much [ inl h ↦ inl (omega (arith, n, h)) | inr h ↦ inr (omega (arith, n, e, h)) ] in
      ap (first_line room) lines ∙ not_fitting room line (lines_of (drop (suc place) window ++ ys)) (not_fit room line over)
      )
  | inr all ↦ cut window place size is (omega (arith, long, inside, all)) (omega (arith, inside, all)) some much whole (long_line window ys)
]
  where
    cut : (window : List ℕ) (place size : ℕ) → place ≡ position_or_len is_feed window → size ≡ place → length window ≡ place → 0 < length window → LINE_MAX < place ⊎ room < size
        → (length window ≤ place → place ≤ LINE_MAX → ys ≡ []) → (length window ≤ position_or_len is_feed window → length window ≤ length (first_bytes (lines_of (window ++ ys))))
        → first_line room (lines_of (window ++ ys)) ≡ too_long
    cut [] place size is e all some much whole long = absurd (omega (arith, some))
    cut (b ∷ xs) place size is e all some much whole long = elim (cases_lt LINE_MAX place) [
      | inl h ↦ first_too_long room (lines_of (b ∷ xs ++ ys)) (omega (arith, long (omega (arith, is, all)), all, h))
      | inr h ↦ (
          let window = b ∷ xs in
          let over : LINE_MAX < length window ⊎ room < length window = elim much [ inl h ↦ inl (omega (arith, all, h)) | inr h ↦ inr (omega (arith, all, e, h)) ] in
          ap (λ l. first_line room (lines_of l)) (ap (λ l. window ++ l) (whole (omega (arith, all)) h) ∙ append-nil window)
          ∙ ap (first_line room) (line_cut b xs (omega (arith, is, all)))
          ∙ not_fitting room (cut_line window) [] (not_fit room (cut_line window) over)
          )
    ]

-- the bytes of a line in front of a window, and those behind it

feed_is : (b : ℕ) → is_feed b ≡ true → b ≡ 10
feed_is b h = grind (arith, nat_tests)

apart : (xs : List ℕ) → position_or_len is_feed xs < length xs → xs ≡ take (position_or_len is_feed xs) xs ++ 10 ∷ drop (suc (position_or_len is_feed xs)) xs
apart [] h = absurd (omega (arith, h))
apart (b ∷ xs) h = of (is_feed b) refl (apart xs)
  where
    of : (t : Bool) → is_feed b ≡ t → (position_or_len is_feed xs < length xs → xs ≡ take (position_or_len is_feed xs) xs ++ 10 ∷ drop (suc (position_or_len is_feed xs)) xs)
        → b ∷ xs ≡ take (position_or_len is_feed (b ∷ xs)) (b ∷ xs) ++ 10 ∷ drop (suc (position_or_len is_feed (b ∷ xs))) (b ∷ xs)
    of true e rest = ap (λ c. c ∷ xs) (feed_is b e) ∙ sym (ap (λ n. take n (b ∷ xs) ++ 10 ∷ drop (suc n) (b ∷ xs)) (place-yes b xs e))
    of false e rest =
        let p = place-no b xs e in
        ap (λ l. b ∷ l) (rest (omega (arith, h, p))) ∙ sym (ap (λ n. take n (b ∷ xs) ++ 10 ∷ drop (suc n) (b ∷ xs)) p)

raw_given : (window ys : List ℕ) (place size : ℕ) → place ≡ position_or_len is_feed window → size ≡ min (place + 1) (length window) → place ≤ length window
    → window ++ ys ≡ bytes_of (record { bytes = take place window; is_ended = nat_lt place size }) ++ (drop size window ++ ys)
raw_given window ys place size is long inside = elim (cases_lt place (length window)) [
  | inl more ↦ (
      let e : size ≡ suc place = omega (arith, long, more) in
      let ended : nat_lt place size ≡ true = grind (arith, nat_tests, e) in
      let whole : window ≡ take place window ++ 10 ∷ drop (suc place) window = rw is (apart window (omega (arith, is, more))) in
      ap (λ l. l ++ ys) whole
      ∙ append_assoc (take place window) (10 ∷ drop (suc place) window) ys
      ∙ sym (append_assoc (take place window) (10 ∷ []) (drop (suc place) window ++ ys))
      ∙ ap (λ n. (take place window ++ 10 ∷ []) ++ (drop n window ++ ys)) (sym e)
      ∙ ap (λ t. bytes_of (record { bytes = take place window; is_ended = t }) ++ (drop size window ++ ys)) (sym ended)
      )
  | inr all ↦ (
      let e : size ≡ place = omega (arith, long, inside, all) in
      let cut : nat_lt place size ≡ false = grind (arith, nat_tests, e) in
      ap (λ l. l ++ ys) (sym (take_all place window (omega (arith, all))))
      ∙ ap (λ l. take place window ++ (l ++ ys)) (sym (drop_all size window (omega (arith, e, all))))
      ∙ ap (λ t. bytes_of (record { bytes = take place window; is_ended = t }) ++ (drop size window ++ ys)) (sym cut)
      )
]

feeds_behind : (b : ℕ) (xs : List ℕ) → is_feed b ≡ false → feeds_in (b ∷ xs) ≡ feeds_in xs
feeds_behind b xs e =
    let none : 0 + 0 + feeds_in xs ≡ feeds_in xs = omega arith in
    sum_by-append (λ c. cond (is_feed c) 1 0) (b ∷ []) xs ∙ ap (λ t. 0 + cond t 1 0 + feeds_in xs) e ∙ none

-- no line feed stands before the first
pub no_feeds : (xs : List ℕ) → feeds_in (take (position_or_len is_feed xs) xs) ≡ 0
no_feeds [] = refl
no_feeds (b ∷ xs) = of (is_feed b) refl (no_feeds xs)
  where
    of : (t : Bool) → is_feed b ≡ t → feeds_in (take (position_or_len is_feed xs) xs) ≡ 0 → feeds_in (take (position_or_len is_feed (b ∷ xs)) (b ∷ xs)) ≡ 0
    of true e rest = ap (λ n. feeds_in (take n (b ∷ xs))) (place-yes b xs e)
    of false e rest = ap (λ n. feeds_in (take n (b ∷ xs))) (place-no b xs e) ∙ feeds_behind b (take (position_or_len is_feed xs) xs) e ∙ rest

-- and none where there is no first one
pub unfinished_feeds : (xs : List ℕ) → position_or_len is_feed xs ≡ length xs → feeds_in xs ≡ 0
unfinished_feeds xs none = ap feeds_in (sym (take_all (position_or_len is_feed xs) xs (omega (arith, none)))) ∙ no_feeds xs

-- what a call answers, where the bytes are told

pub line_given : (old new : LinesRead) (a b : Option (List ℕ)) (before window : List ℕ) (place size : ℕ) → before ≡ old.held → Keeps (prepend_known before a) (prepend_known window b)
    → place ≡ position_or_len is_feed window → size ≡ min (place + 1) (length window) → place ≤ length window → (length window ≤ place → place ≤ LINE_MAX → IsAtEnd b)
    → 0 < length window → place ≤ LINE_MAX → size ≤ old.room → old.is_over ≡ false → new.held ≡ drop size window → new.last ≡ record { bytes = take place window; is_ended = nat_lt place size } → (new.is_over ≡ true → size ≡ place)
    → IfSome (prepend_known old.held a) (λ left. GivesFrom old new left (prepend_known new.held b) (Ok true))
line_given old new None b before window place size held kept is long inside whole some short within begun rest last cut = tt
line_given old new (Some x) None before window place size held kept is long inside whole some short within begun rest last cut = absurd kept
line_given old new (Some x) (Some y) before window place size held kept is long inside whole some short within begun rest last cut = record {
  begun = begun;
  first =
      ap (λ l. first_line old.room (lines_of l)) (ap (λ l. l ++ x) (sym held) ∙ sym kept)
      ∙ front_given old.room window y place size is long inside whole some short within
      ∙ ap (λ l. next_line l (lines_of (drop size window ++ y))) (sym last)
      ∙ ap (λ l. next_line new.last (lines_of (l ++ y))) (sym rest);
  taken = ap (λ l. l ++ x) (sym held) ∙ sym kept ∙ raw_given window y place size is long inside ∙ ap (λ l. bytes_of l ++ (drop size window ++ y)) (sym last) ∙ ap (λ l. bytes_of new.last ++ (l ++ y)) (sym rest);
  alone = ap (λ (l : InputLine). feeds_in l.bytes) last ∙ ap (λ n. feeds_in (take n window)) is ∙ no_feeds window;
  last = λ over. (let same : size ≡ place = cut over in let all : length window ≤ place = omega (arith, same, long, inside) in
      ap (λ l. l ++ y) rest ∙ ap (λ l. l ++ y) (drop_all size window (omega (arith, same, all))) ∙ whole all short);
}

pub line_refused : (old new : LinesRead) (a b : Option (List ℕ)) (before window : List ℕ) (place size line : ℕ) → before ≡ old.held → Keeps (prepend_known before a) (prepend_known window b)
    → place ≡ position_or_len is_feed window → size ≡ min (place + 1) (length window) → place ≤ length window → (length window ≤ place → place ≤ LINE_MAX → IsAtEnd b)
    → 0 < length window → LINE_MAX < place ⊎ old.room < size → old.is_over ≡ false
    → IfSome (prepend_known old.held a) (λ left. GivesFrom old new left (prepend_known new.held b) (Err (TooLong line)))
line_refused old new None b before window place size line held kept is long inside whole some much begun = tt
line_refused old new (Some x) None before window place size line held kept is long inside whole some much begun = absurd kept
line_refused old new (Some x) (Some y) before window place size line held kept is long inside whole some much begun =
    (begun, ap (λ l. first_line old.room (lines_of l)) (ap (λ l. l ++ x) (sym held) ∙ sym kept) ∙ front_refused old.room window y place size is long inside whole some much)

-- the lines of a text at hand

pub no_line_in : (text : List ℕ) → length text ≡ 0 → lines_of text ≡ []
unfolding lines_of
no_line_in [] none = refl
no_line_in (b ∷ text) none = absurd (omega (arith, none))

pub line_in : (text bytes rest : List ℕ) (ended : Bool) (place : ℕ) → 0 < length text → place ≡ position_or_len is_feed text → place ≤ length text → bytes ≡ take place text → ended ≡ nat_lt place (length text)
    → rest ≡ drop (place + 1) text → lines_of text ≡ record { bytes = bytes; is_ended = ended } ∷ lines_of rest
unfolding lines_of
line_in [] bytes rest ended place some is inside before told behind = absurd (omega (arith, some))
line_in (b ∷ xs) bytes rest ended place some is inside before told behind = elim (cases_lt place (length (b ∷ xs))) [
  | inl more ↦ (
      let text = b ∷ xs in
      let t : true ≡ ended = grind (arith, nat_tests, told, more) in
      let e : suc (position_or_len is_feed text) ≡ place + 1 = omega (arith, is) in
      let back : drop (suc (position_or_len is_feed text)) text ++ [] ≡ rest = append-nil (drop (suc (position_or_len is_feed text)) text) ∙ ap (λ n. drop n text) e ∙ sym behind in
      ap lines_of (sym (append-nil text)) ∙ line_ended text [] (omega (arith, is, more)) ∙ ap (λ l. ended_line (take (position_or_len is_feed text) text) ∷ lines_of l) back
      ∙ ap (λ n. ended_line (take n text) ∷ lines_of rest) (sym is) ∙ ap (λ l. ended_line l ∷ lines_of rest) (sym before) ∙ ap (λ e. record { bytes = bytes; is_ended = e } ∷ lines_of rest) t
      )
  | inr all ↦ (
      let text = b ∷ xs in
      let t : false ≡ ended = grind (arith, nat_tests, told, all) in
      let none : rest ≡ [] = behind ∙ drop_all (place + 1) text (omega (arith, all)) in
      line_cut b xs (omega (arith, is, all)) ∙ ap (λ l. cut_line l ∷ []) (sym (before ∙ take_all place text (omega (arith, all)))) ∙ ap (λ e. record { bytes = bytes; is_ended = e } ∷ []) t
      ∙ ap (λ l. record { bytes = bytes; is_ended = ended } ∷ lines_of l) (sym none)
      )
]

pub ruleset split_lines = (no_line_in, line_in)
