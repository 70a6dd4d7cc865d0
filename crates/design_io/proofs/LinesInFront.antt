-- A line in front of any bytes, and a text whose first line is too long.
use Rattle.std.proofs.Common.{◌≡◌, ℕ, zero, suc, ◌+◌, ◌<◌, Bool, true, false, cond, List, [], ◌∷◌, ◌++◌, length, append-nil, inl, refl, ap, sym, ◌∙◌, arith}
use Rattle.std.proofs.lemmas.List.Sums.{sum_by-append}
use Rattle.design_base.specs.declared.limits.TheConstants.{LINE_MAX}
use Rattle.design_io.specs.InputLines.{InputLine, bytes_of, cut_line, ended_line, feeds_in, first_line, is_feed, lines_of, size_of, too_long, with_byte}
use Rattle.design_io.proofs.LinesOfText.{lines-no, not_fit, not_fitting}

-- the line feeds of a byte and of those behind it
feeds_with : (b : ℕ) (xs : List ℕ) → feeds_in (b ∷ xs) ≡ cond (is_feed b) 1 0 + feeds_in xs
feeds_with b xs = sum_by-append (λ c. cond (is_feed c) 1 0) (b ∷ []) xs ∙ omega arith

not_feed : (b : ℕ) (xs : List ℕ) → feeds_in (b ∷ xs) ≡ 0 → (is_feed b ≡ false) × (feeds_in xs ≡ 0)
not_feed b xs none = of (is_feed b) refl
  where
    of : (t : Bool) → is_feed b ≡ t → (is_feed b ≡ false) × (feeds_in xs ≡ 0)
    of true e = let e' = feeds_with b xs ∙ ap (λ t. cond t 1 0 + feeds_in xs) e in absurd (omega (arith, e', none))
    of false e = let e' = feeds_with b xs ∙ ap (λ t. cond t 1 0 + feeds_in xs) e in (e, omega (arith, e', none))

-- bytes without a line feed, and one behind them
ended_in_front : (xs rest : List ℕ) → feeds_in xs ≡ 0 → lines_of ((xs ++ 10 ∷ []) ++ rest) ≡ ended_line xs ∷ lines_of rest
unfolding lines_of
ended_in_front [] rest none = refl
ended_in_front (b ∷ xs) rest none =
    let other = not_feed b xs none in
    lines-no b ((xs ++ 10 ∷ []) ++ rest) other.0 ∙ ap (with_byte b) (ended_in_front xs rest other.1)

-- bytes without a line feed, and nothing behind them
cut_in_front : (b : ℕ) (xs : List ℕ) → feeds_in (b ∷ xs) ≡ 0 → lines_of (b ∷ xs) ≡ cut_line (b ∷ xs) ∷ []
unfolding lines_of
cut_in_front b [] none = lines-no b [] (not_feed b [] none).0
cut_in_front b (c ∷ xs) none =
    let other = not_feed b (c ∷ xs) none in
    lines-no b (c ∷ xs) other.0 ∙ ap (with_byte b) (cut_in_front c xs other.1)

-- A line stands first in its bytes with any others behind them. Behind a line that no line feed ends there are none.
pub line_in_front : (l : InputLine) (rest : List ℕ) → feeds_in l.bytes ≡ 0 → 0 < size_of l → (l.is_ended ≡ false → rest ≡ []) → lines_of (bytes_of l ++ rest) ≡ l ∷ lines_of rest
unfolding lines_of
line_in_front l rest none some last = of l.bytes l.is_ended none some last
  where
    of : (bytes : List ℕ) (is_ended : Bool) → feeds_in bytes ≡ 0 → 0 < size_of (record { bytes = bytes; is_ended = is_ended }) → (is_ended ≡ false → rest ≡ [])
        → lines_of (bytes_of (record { bytes = bytes; is_ended = is_ended }) ++ rest) ≡ record { bytes = bytes; is_ended = is_ended } ∷ lines_of rest
    of bytes true none some last = ended_in_front bytes rest none
    of [] false none some last = absurd (omega (arith, some))
    of (b ∷ bytes) false none some last =
        ap (λ l. lines_of (b ∷ bytes ++ l)) (last refl) ∙ ap lines_of (append-nil (b ∷ bytes)) ∙ cut_in_front b bytes none
        ∙ sym (ap (λ l. cut_line (b ∷ bytes) ∷ lines_of l) (last refl))

-- so many bytes that are no line feed
zeros : ℕ → List ℕ
zeros zero = []
zeros (suc n) = 0 ∷ zeros n

zeros_size : (n : ℕ) → length (zeros n) ≡ n
unfolding zeros
zeros_size zero = refl
zeros_size (suc n) = ap suc (zeros_size n)

zeros_feeds : (n : ℕ) → feeds_in (zeros n) ≡ 0
unfolding zeros
zeros_feeds zero = refl
zeros_feeds (suc n) = let first : feeds_in (0 ∷ zeros n) ≡ 0 + feeds_in (zeros n) = feeds_with 0 (zeros n) in omega (arith, first, zeros_feeds n)

-- a text whose first line is too long
pub long_text : (room : ℕ) → (text : List ℕ) × (first_line room (lines_of text) ≡ too_long)
unfolding zeros
long_text room =
    let text = zeros (suc LINE_MAX) in
    let long : LINE_MAX < length text = omega (arith, zeros_size (suc LINE_MAX)) in
    (text, ap (first_line room) (cut_in_front 0 (zeros LINE_MAX) (zeros_feeds (suc LINE_MAX))) ∙ not_fitting room (cut_line text) [] (not_fit room (cut_line text) (inl long)))
