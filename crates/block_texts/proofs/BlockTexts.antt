-- Block text, read line by line.
use Rattle.std.proofs.Common.{◌≡◌, ℕ, ◌+◌, List, [], ◌∷◌, ◌++◌, None, Option, refl, ap, sym, ◌∙◌, append-nil, append_assoc}
use Rattle.block_texts.specs.BlockLines.{block_line, with_row}
use Rattle.block_texts.specs.BlockText.{is_feed, lines_of, BlockText, blocks, bad_line, behind, with_line, read_from, block_text, shortened, until_short}
use Rattle.block_texts.specs.Fronts.{HasBadFirst, IsFirstRow, first_line, later_lines, lines_behind}
use Rattle.block_texts.proofs.Fronts.{parts-first}
use Rattle.block_texts.proofs.Shortened.{bad_before, shortened-behind, stays_short}

-- rows behind rows
behind-behind : (rows more : List (List ℕ)) (text : BlockText) → behind rows (behind more text) ≡ behind (rows ++ more) text
behind-behind rows more (bad_line place) = refl
behind-behind rows more (blocks last) = ap blocks (sym (append_assoc rows more last))

with_row-append : (rows : List (List ℕ)) (row : List ℕ) → with_row rows row ≡ rows ++ with_row [] row
with_row-append rows [] = sym (append-nil rows)
with_row-append rows (x ∷ row) = refl

-- what the first line of a text adds to the blocks of those behind it
read-first : (place : ℕ) (text : List ℕ) → read_from place (lines_of text) ≡ with_line place (block_line (first_line text)) (read_from (place + 1) (later_lines text))
unfolding read_from
read-first place text = ap (read_from place) (parts-first is_feed text)

-- one more line was read
pub block_text-more : (least : ℕ) (text rest row seen : List ℕ) (old new : List (List ℕ)) (place : ℕ) (next : Option (List ℕ)) → shortened least (block_text text) ≡ shortened least (behind old (read_from place (lines_of rest)))
    → IsFirstRow rest row next → seen ≡ row → new ≡ until_short least (with_row old seen) → shortened least (block_text text) ≡ shortened least (behind new (read_from (place + 1) (lines_behind next)))
block_text-more least text rest row seen old new place next before first same is =
    before
    ∙ ap (λ t. shortened least (behind old t)) (read-first place rest ∙ ap (λ r. with_line place r (read_from (place + 1) (later_lines rest))) first.numbers)
    ∙ ap (λ lines. shortened least (behind old (behind (with_row [] row) (read_from (place + 1) lines)))) first.later
    ∙ ap (shortened least) (behind-behind old (with_row [] row) later)
    ∙ ap (λ rows. shortened least (behind rows later)) (sym (with_row-append old row))
    ∙ sym (shortened-behind least (with_row old row) later)
    ∙ ap (λ rows. shortened least (behind rows later)) (ap (λ r. until_short least (with_row old r)) (sym same) ∙ sym is)
  where
    later : BlockText
    later = read_from (place + 1) (lines_behind next)

-- the last line was read
pub block_text-last : (least : ℕ) (text rest row seen : List ℕ) (old new : List (List ℕ)) (place : ℕ) (next : Option (List ℕ)) → shortened least (block_text text) ≡ shortened least (behind old (read_from place (lines_of rest)))
    → IsFirstRow rest row next → next ≡ None → seen ≡ row → new ≡ until_short least (with_row old seen) → shortened least (block_text text) ≡ blocks new
unfolding read_from
block_text-last least text rest row seen old new place next before first last same is =
    block_text-more least text rest row seen old new place next before first same is
    ∙ ap (λ n. shortened least (behind new (read_from (place + 1) (lines_behind n)))) last
    ∙ ap (λ rows. blocks (until_short least rows)) (append-nil new)
    ∙ ap blocks (stays_short least new (with_row old seen) is)

-- a bad line is the first one
pub block_text-bad : (least : ℕ) (text rest : List ℕ) (old : List (List ℕ)) (place : ℕ) → shortened least (block_text text) ≡ shortened least (behind old (read_from place (lines_of rest)))
    → HasBadFirst rest → block_text text ≡ bad_line place
block_text-bad least text rest old place before bad =
    bad_before least (block_text text) place (before ∙ ap (λ t. shortened least (behind old t)) (read-first place rest ∙ ap (λ r. with_line place r (read_from (place + 1) (later_lines rest))) bad.first))

-- before the first line
pub block_text-first : (text : List ℕ) → block_text text ≡ behind [] (read_from 1 (lines_of text))
unfolding block_text
block_text-first text = of (read_from 1 (lines_of text))
  where
    of : (read : BlockText) → read ≡ behind [] read
    of (bad_line place) = refl
    of (blocks rows) = refl
