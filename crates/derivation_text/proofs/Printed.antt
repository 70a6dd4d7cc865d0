-- A text that is read is the text that is printed of the derivation that was read, line by line.
use Rattle.std.proofs.Common.{◌≡◌, ℕ, ◌+◌, inl, inr, subst, Bool, true, false, List, [], ◌∷◌, ◌++◌, length, drop, map, Option, Some, None, Result, Ok, Err, refl, ap, sym, ◌∙◌, append_assoc, append-nil, length-append, arith}
use Rattle.std.specs.Prelude.{◌&&◌, ◌==◌, nat_lt, codes, if◌then◌else◌}
use Rattle.std.specs.Fmt.{decimal}
use Rattle.std.specs.List.{flat_map}
use Rattle.std.specs.Str.{bytes_eq}
use Rattle.std.proofs.lemmas.Bool.Decides.{Decides-eqb, nat_tests}
use Rattle.std.proofs.lemmas.Fmt.{decimal_digit}
use Rattle.std.proofs.lemmas.List.Splits.{join_with_byte-slice_split}
use Rattle.std.proofs.lemmas.Slice.Eq.{bytes_eq-Decides}
use Rattle.counting.proofs.Booleans.{both}
use Rattle.counting.specs.Search.{◌<=◌}
use Rattle.design_base.specs.declared.limits.TheConstants.{DERIVATION_MAX}
use Rattle.design_base.specs.Rules.{kind_of, title}
use Rattle.design_base.specs.Steps.{parameters_of}
use Rattle.design_io.specs.InputLines.{InputLine, bytes_of, ended_line, is_feed, lines_of, with_byte}
use Rattle.design_lines.specs.declared.command.Reason.{Reason}
use Rattle.design_lines.specs.Grammar.{normal_question}
use Rattle.design_lines.specs.Printed.{counted_line, question_words, spaced, step_words}
use Rattle.design_lines.specs.Reading.{Reader, Reading, at_end, gives, ◌then◌, number, value_read, whole}
use Rattle.design_lines.specs.Words.{spaced_words}
use Rattle.derivations.specs.Derivations.{line}
use Rattle.derivations.specs.declared.line.Line.{Line}
use Rattle.derivation_text.specs.Grammar.{Parsed, parsed, bad, too_long, ◌giving◌, alone, end_line, if_whole, is_end, is_head, is_number, line_behind, line_read, names, parse_behind, parse_lines, parse_text, rule_word, spelled_line, step_of_rule}
use Rattle.derivation_text.specs.Spelling.{OnlyTextLaw, text_of}
use Rattle.derivation_text.specs.Text.{derivation_lines, from_words, numbered_line, numbered_lines}
use Rattle.derivation_text.proofs.Exact.{Taken, entry_back, given_back, gives_back, names_back, nothing, number_back, question_back, refused_back, rule_back, some_is, step_back, then_back}
use Rattle.derivation_text.proofs.Words.{reading}

abbrev words_of_line : Line → List (List ℕ)
words_of_line l = question_words l.query ++ step_words l.step ++ from_words l.from

behind_back : (at : ℕ) (words : List (List ℕ)) (l : Line) (r : Reading (Option Line)) → line_behind at words ≡ Ok r → r.value ≡ Some l → words ≡ words_of_line l ++ r.words
unfolding step_words
behind_back at words l r h some =
    let q = given_back normal_question (λ q. rule_word (kind_of q) giving λ rule. step_of_rule rule giving λ s. names then λ from. gives (Some (line q s from))) at words r l h some in
    let rule = given_back (rule_word (kind_of q.value)) (λ rule. step_of_rule rule giving λ s. names then λ from. gives (Some (line q.value s from))) q.place q.rest r l q.behind some in
    let s = given_back (step_of_rule rule.value) (λ s. names then λ from. gives (Some (line q.value s from))) rule.place rule.rest r l rule.behind some in
    let from = then_back names (λ from. gives (Some (line q.value s.value from))) s.place s.rest r s.behind in
    let g = gives_back (Some (line q.value s.value from.value)) from.place from.rest r from.behind in
    let e : line q.value s.value from.value ≡ l = some_is (line q.value s.value from.value) l (g.0 ∙ some) in
    let p = step_back rule.value rule.place s.place rule.rest s.rest s.value s.first in
    let qs = question_words q.value in
    let ss = (title s.value.rule).name ∷ map decimal (parameters_of s.value) in
    let fs = from_words from.value in
    question_back at q.place words q.rest q.value q.first
    ∙ ap (λ x. qs ++ x)
    (rule_back (kind_of q.value) q.place rule.place q.rest rule.rest rule.value rule.first ∙ ap (λ n. (title n).name ∷ rule.rest) p.1 ∙ ap (λ x. (title s.value.rule).name ∷ x) p.0
    ∙ ap (λ x. ss ++ x) (names_back s.place s.rest _ from.first))
    ∙ sym (append_assoc qs ss (fs ++ from.rest)) ∙ sym (append_assoc (qs ++ ss) fs from.rest)
    ∙ ap (λ x. words_of_line x ++ from.rest) e ∙ ap (λ x. words_of_line l ++ x) g.1

line_taken : (i at : ℕ) (words : List (List ℕ)) (l : Line) (r : Reading (Option Line)) → Taken number (λ n. if n == i then line_behind else gives None) at words r → r.value ≡ Some l
    → words ≡ decimal i ∷ (words_of_line l ++ r.words)
line_taken i at words l r t some = of (t.value == i) refl t.behind
  where
    of : (b : Bool) → (t.value == i) ≡ b → (if b then line_behind else gives None) t.place t.rest ≡ Ok r → words ≡ decimal i ∷ (words_of_line l ++ r.words)
    of false e h = absurd (nothing r.value l (gives_back None t.place t.rest r h).0 some)
    of true e h =
        number_back at words _ t.first ∙ ap (λ n. decimal n ∷ t.rest) ((Decides-eqb t.value i).0 e) ∙ ap (λ x. decimal i ∷ x) (behind_back t.place t.rest l r h some)

line_back : (i at : ℕ) (words : List (List ℕ)) (l : Line) (r : Reading (Option Line)) → line_read i at words ≡ Ok r → r.value ≡ Some l → words ≡ decimal i ∷ (words_of_line l ++ r.words)
unfolding line_read
line_back i at words l r h some = line_taken i at words l r (then_back number (λ n. if n == i then line_behind else gives None) at words r h) some

-- what was read of all words of a line

end_rest : {A : Type 0} (v : A) (at : ℕ) (words : List (List ℕ)) (r : Reading A) → at_end v at words ≡ Ok r → (v ≡ r.value) × (words ≡ [])
unfolding at_end
end_rest v at [] r h = ((gives_back v at [] r h).0, refl)
end_rest v at (w ∷ ws) r h = cc

whole_back : {A : Type 0} (read : Reader A) (words : List (List ℕ)) (v : A) → whole read words ≡ Ok v → (place : ℕ) × (read 1 words ≡ reading v place [])
whole_back {A} read words v h = of ((read then at_end) 1 words) refl h
  where
    of : (x : Result (Reading A) Reason) → (read then at_end) 1 words ≡ x → value_read x ≡ Ok v → (place : ℕ) × (read 1 words ≡ reading v place [])
    of (Err e) i h = cc
    of (Ok r) i h =
        let t = then_back read at_end 1 words r i in
        let e = end_rest t.value t.place t.rest r t.behind in
        let same : r.value ≡ v = cc in
        (t.place, t.first ∙ ap (λ x. reading x t.place t.rest) (e.0 ∙ same) ∙ ap (λ ws. reading v t.place ws) e.1)

whole_some : {A : Type 0} (w : Result (Option A) Reason) (x : A) → if_whole w ≡ Some x → w ≡ Ok (Some x)
whole_some (Err e) x h = cc
whole_some (Ok v) x h = ap Ok h

-- the bytes of a line of these words
line_is : (l : InputLine) (words : List (List ℕ)) → l.is_ended ≡ true → spaced_words l.bytes ≡ words → l ≡ ended_line (spaced words)
line_is l words ended is =
    let bytes : l.bytes ≡ spaced words = sym (join_with_byte-slice_split 32 l.bytes) ∙ ap spaced is in
    λ j. record { bytes = bytes j; is_ended = ended j }

spelled_back : (i : ℕ) (l : InputLine) (x : Line) → spelled_line i l ≡ Some x → l ≡ ended_line (spaced (decimal i ∷ words_of_line x))
unfolding spelled_line
spelled_back i l x h = of l.is_ended refl h
  where
    of : (b : Bool) → l.is_ended ≡ b → (if b then if_whole (whole (line_read i) (spaced_words l.bytes)) else None) ≡ Some x → l ≡ ended_line (spaced (decimal i ∷ words_of_line x))
    of false e h = cc
    of true e h =
        let w = whole_back (line_read i) (spaced_words l.bytes) (Some x) (whole_some (whole (line_read i) (spaced_words l.bytes)) x h) in
        line_is l (decimal i ∷ words_of_line x) e
        (line_back i 1 (spaced_words l.bytes) x (record { value = Some x; at = w.0; words = [] }) w.1 refl ∙ ap (λ ws. decimal i ∷ ws) (append-nil (words_of_line x)))

number_is : (count : ℕ) (w : Result ℕ Reason) → is_number count w ≡ true → w ≡ Ok count
number_is count (Err e) h = cc
number_is count (Ok n) h = ap Ok ((Decides-eqb n count).0 h)

end_words : (count place : ℕ) (words : List (List ℕ)) → end_line 1 words ≡ reading count place [] → words ≡ codes "end" ∷ decimal count ∷ []
unfolding end_line
end_words count place words h = elim (entry_back _ _ _ 1 words (record { value = count; at = place; words = [] }) h) [
  | inl e ↦ e.0 ∙ ap (λ ws. codes "end" ∷ ws) (number_back (1 + 1) (drop 1 words) (record { value = count; at = place; words = [] }) e.1)
  | inr h ↦ absurd (refused_back 1 words (record { value = count; at = place; words = [] }) h)
]

end_back : (count : ℕ) (l : InputLine) → is_end count l ≡ true → l ≡ ended_line (spaced (codes "end" ∷ decimal count ∷ []))
unfolding is_end
end_back count l h =
    let read = whole end_line (spaced_words l.bytes) in
    let a = both (l.is_ended && (1 <= count)) (is_number count read) h in
    let w = whole_back end_line (spaced_words l.bytes) count (number_is count read a.1) in
    line_is l (codes "end" ∷ decimal count ∷ []) (both l.is_ended (1 <= count) a.0).0 (end_words count w.0 (spaced_words l.bytes) w.1)

-- The lines of a text are its bytes.

feed_is : (b : ℕ) → is_feed b ≡ true → 10 ≡ b
feed_is b h = grind (arith, nat_tests)

bytes_of-with_byte : (b : ℕ) (lines : List InputLine) → flat_map bytes_of (with_byte b lines) ≡ b ∷ flat_map bytes_of lines
bytes_of-with_byte b [] = refl
bytes_of-with_byte b (l ∷ lines) = of l.is_ended
  where
    of : (t : Bool) → (if t then b ∷ l.bytes ++ 10 ∷ [] else b ∷ l.bytes) ++ flat_map bytes_of lines ≡ b ∷ ((if t then l.bytes ++ 10 ∷ [] else l.bytes) ++ flat_map bytes_of lines)
    of true = refl
    of false = refl

text_back : (text : List ℕ) → flat_map bytes_of (lines_of text) ≡ text
unfolding lines_of
text_back [] = refl
text_back (b ∷ text) = of (is_feed b) refl (text_back text)
  where
    of : (t : Bool) → is_feed b ≡ t → flat_map bytes_of (lines_of text) ≡ text → flat_map bytes_of (if t then ended_line [] ∷ lines_of text else with_byte b (lines_of text)) ≡ b ∷ text
    of true e rest = ap (λ t. 10 ∷ t) rest ∙ ap (λ c. c ∷ text) (feed_is b e)
    of false e rest = bytes_of-with_byte b (lines_of text) ∙ ap (λ t. b ∷ t) rest

-- Line by line.

abbrev printed_from : ℕ → List Line → ℕ → List ℕ
printed_from i more total = flat_map (λ line. line) (numbered_lines i more ++ counted_line (codes "end") total ∷ [])

-- D and more lines are the lines that were read, and these are printed
record Read (D E : List Line) (lines rest : List InputLine) : Type 0 where
  more : List Line
  all : D ++ more ≡ E
  bytes : flat_map bytes_of lines ≡ printed_from (length D + 1) more (length E) ++ flat_map bytes_of rest

read_end : (D : List Line) (l : InputLine) (lines : List InputLine) → is_end (length D) l ≡ true → Read D D (l ∷ lines) lines
unfolding numbered_lines counted_line
read_end D l lines ends = record {
  more = [];
  all = append-nil D;
  bytes =
      ap (λ x. bytes_of x ++ flat_map bytes_of lines) (end_back (length D) l ends)
      ∙ ap (λ x. x ++ flat_map bytes_of lines) (sym (append-nil (spaced (codes "end" ∷ decimal (length D) ∷ []) ++ 10 ∷ [])));
}

read_more : (D E : List Line) (x : Line) (l : InputLine) (lines rest : List InputLine) → spelled_line (length D + 1) l ≡ Some x → Read (D ++ x ∷ []) E lines rest → Read D E (l ∷ lines) rest
unfolding numbered_lines numbered_line
read_more D E x l lines rest spelled r =
    let size = length-append D (x ∷ []) in
    let next : length (D ++ x ∷ []) + 1 ≡ length D + 1 + 1 = omega (arith, size) in
    record {
      more = x ∷ r.more;
      all = sym (append_assoc D (x ∷ []) r.more) ∙ r.all;
      bytes =
          ap (λ y. bytes_of y ++ flat_map bytes_of lines) (spelled_back (length D + 1) l x spelled)
          ∙ ap (λ y. (spaced (decimal (length D + 1) ∷ words_of_line x) ++ 10 ∷ []) ++ y) (r.bytes ∙ ap (λ n. printed_from n r.more (length E) ++ flat_map bytes_of rest) next)
          ∙ sym (append_assoc (spaced (decimal (length D + 1) ∷ words_of_line x) ++ 10 ∷ []) (printed_from (length D + 1 + 1) r.more (length E)) (flat_map bytes_of rest));
    }

lines_back : (lines : List InputLine) (D E : List Line) (rest : List InputLine) → parse_behind D lines ≡ parsed E rest → Read D E lines rest
unfolding parse_behind
lines_back [] D E rest h = cc
lines_back (l ∷ lines) D E rest h = of (is_end (length D) l) refl (nat_lt (length D) DERIVATION_MAX) (spelled_line (length D + 1) l) refl h (λ x. lines_back lines (D ++ x ∷ []) E rest)
  where
    same : D ≡ E → lines ≡ rest → Read D D (l ∷ lines) lines → Read D E (l ∷ lines) rest
    same d e r = subst (λ (x : List Line). Read D x (l ∷ lines) rest) d (subst (λ (x : List InputLine). Read D D (l ∷ lines) x) e r)

    of : (a : Bool) → is_end (length D) l ≡ a → (b : Bool) → (o : Option Line) → spelled_line (length D + 1) l ≡ o
        → (if a then parsed D lines else if b then elim o [ None ↦ bad (length D + 2) | Some x ↦ parse_behind (D ++ x ∷ []) lines ] else too_long) ≡ parsed E rest
        → ((x : Line) → parse_behind (D ++ x ∷ []) lines ≡ parsed E rest → Read (D ++ x ∷ []) E lines rest) → Read D E (l ∷ lines) rest
    of true i b o s h more = let d : D ≡ E = cc in let e : lines ≡ rest = cc in same d e (read_end D l lines i)
    of false i true None s h more = cc
    of false i true (Some x) s h more = read_more D E x l lines rest s (more x h)
    of false i false o s h more = cc

alone_back : (p : Parsed) (D : List Line) → alone p ≡ parsed D [] → p ≡ parsed D []
alone_back (parsed E []) D h = h
alone_back (parsed E (l ∷ lines)) D h = cc
alone_back (bad place) D h = cc
alone_back too_long D h = cc

head_is : (l : InputLine) → is_head l ≡ true → l ≡ ended_line (codes "derivation 1")
head_is l h =
    let a = both l.is_ended (bytes_eq l.bytes (codes "derivation 1")) h in
    let bytes = (bytes_eq-Decides l.bytes (codes "derivation 1")).0 a.1 in
    λ j. record { bytes = bytes j; is_ended = a.0 j }

printed_all : (D : List Line) → codes "derivation 1" ++ 10 ∷ printed_from 1 D (length D) ≡ text_of D
unfolding derivation_lines counted_line
printed_all D =
    let one : decimal 1 ≡ 49 ∷ [] = decimal_digit 1 (omega arith) in
    rw one refl

lines_printed : (l : InputLine) (lines : List InputLine) (D : List Line) → parse_lines (l ∷ lines) ≡ parsed D [] → flat_map bytes_of (l ∷ lines) ≡ text_of D
lines_printed l lines D h = of (is_head l) refl h
  where
    of : (b : Bool) → is_head l ≡ b → (if b then alone (parse_behind [] lines) else bad 1) ≡ parsed D [] → flat_map bytes_of (l ∷ lines) ≡ text_of D
    of false e h = cc
    of true e h =
        let r = lines_back lines [] D [] (alone_back (parse_behind [] lines) D h) in
        ap (λ x. bytes_of x ++ flat_map bytes_of lines) (head_is l e)
        ∙ ap (λ x. (codes "derivation 1" ++ 10 ∷ []) ++ x) (r.bytes ∙ append-nil (printed_from 1 r.more (length D)) ∙ ap (λ (E : List Line). printed_from 1 E (length D)) r.all)
        ∙ printed_all D

-- What is read of a text is printed as that text.
pub printed_text : (text : List ℕ) (D : List Line) → parse_text text ≡ parsed D [] → text ≡ text_of D
unfolding parse_text
printed_text text D h = sym (text_back text) ∙ of (lines_of text) h
  where
    of : (lines : List InputLine) → parse_lines lines ≡ parsed D [] → flat_map bytes_of lines ≡ text_of D
    of [] h = cc
    of (l ∷ lines) h = lines_printed l lines D h

pub text_is_printed : OnlyTextLaw
text_is_printed = printed_text
