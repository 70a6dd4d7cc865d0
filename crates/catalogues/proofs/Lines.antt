-- The lines of a text have as many bytes as the text.
use Rattle.std.proofs.Common.{List, [], ap, arith, false, length, refl, sym, true, ℕ, Bool, ◌+◌, ◌∙◌, ◌∷◌, ◌≡◌, ◌≤◌}
use Rattle.std.specs.Prelude.{if◌then◌else◌}
use Rattle.design_io.specs.InputLines.{InputLine, ended_line, is_feed, lines_of, size_of, with_byte}

abbrev bytes_in : List InputLine → ℕ
bytes_in [] = 0
bytes_in (l ∷ lines) = size_of l + bytes_in lines

more_bytes : (byte : ℕ) (bytes : List ℕ) (t : Bool) → size_of (record { bytes = byte ∷ bytes; is_ended = t }) ≡ size_of (record { bytes = bytes; is_ended = t }) + 1
more_bytes byte bytes true = omega arith
more_bytes byte bytes false = omega arith

with_byte_size : (byte : ℕ) (lines : List InputLine) → bytes_in (with_byte byte lines) ≡ bytes_in lines + 1
with_byte_size byte [] = refl
with_byte_size byte (l ∷ lines) = sum (more_bytes byte l.bytes l.is_ended)
  where
    sum : size_of (record { bytes = byte ∷ l.bytes; is_ended = l.is_ended }) ≡ size_of l + 1 → size_of (record { bytes = byte ∷ l.bytes; is_ended = l.is_ended }) + bytes_in lines ≡ size_of l + bytes_in lines + 1
    sum e = omega (arith, e)

one_byte_more : (byte : ℕ) (text : List ℕ) (lines : List InputLine) (t : Bool) → bytes_in lines ≡ length text → bytes_in (if t then ended_line [] ∷ lines else with_byte byte lines) ≡ length (byte ∷ text)
one_byte_more byte text lines true e = omega (arith, e)
one_byte_more byte text lines false e = omega (arith, with_byte_size byte lines, e)

lines_size : (text : List ℕ) → bytes_in (lines_of text) ≡ length text
unfolding lines_of
lines_size [] = refl
lines_size (byte ∷ text) = one_byte_more byte text (lines_of text) (is_feed byte) (lines_size text)

least_bytes : (t : Bool) (n : ℕ) → n ≤ (if t then n + 1 else n)
least_bytes true n = omega arith
least_bytes false n = omega arith

-- the first line and what stands behind it have no more bytes than the text
pub bytes_of_first : (text bytes rest : List ℕ) (is_ended : Bool) → lines_of text ≡ record { bytes = bytes; is_ended = is_ended } ∷ lines_of rest → length bytes + length rest ≤ length text
bytes_of_first text bytes rest is_ended e =
    let all : length text ≡ bytes_in (record { bytes = bytes; is_ended = is_ended } ∷ lines_of rest) = sym (lines_size text) ∙ ap bytes_in e in
    omega (arith, all, lines_size rest, least_bytes is_ended (length bytes))
