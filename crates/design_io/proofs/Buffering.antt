-- What is passed on from a buffer.
use Rattle.std.proofs.Common.{◌≡◌, ℕ, ◌-◌, ◌≤◌, List, [], ◌∷◌, ◌++◌, take, drop, sym, ap, ◌∙◌, arith, append_assoc, append-nil}
use Rattle.std.proofs.Math.Seq.{take-add}
use Rattle.std.proofs.lemmas.List.Concat.{flat_map-append}
use Rattle.design_io.specs.Buffers.{fronts}

-- one more front
fronts-more : (pairs : List (List ℕ × ℕ)) (bytes : List ℕ) (count : ℕ) → fronts (pairs ++ (bytes, count) ∷ []) ≡ fronts pairs ++ take count bytes
fronts-more pairs bytes count = flat_map-append (λ p. take p.1 p.0) pairs ((bytes, count) ∷ []) ∙ ap (λ l. fronts pairs ++ l) (append-nil (take count bytes))

-- the front of a buffer is passed on, and the rest is moved to its front
pub moved_on : (pairs more : List (List ℕ × ℕ)) (bytes now : List ℕ) (len count : ℕ) → count ≤ len → more ≡ pairs ++ (bytes, count) ∷ [] → take (len - count) now ≡ take (len - count) (drop count bytes)
    → fronts more ++ take (len - count) now ≡ fronts pairs ++ take len bytes
moved_on pairs more bytes now len count within is moved =
    ap (λ l. fronts l ++ take (len - count) now) is
    ∙ ap (λ l. l ++ take (len - count) now) (fronts-more pairs bytes count)
    ∙ append_assoc (fronts pairs) (take count bytes) (take (len - count) now)
    ∙ ap (λ l. fronts pairs ++ l) (
    ap (λ l. take count bytes ++ l) moved ∙ sym (take-add count (len - count) bytes) ∙ ap (λ n. take n bytes) (omega (arith, within))
    )
