-- Loops that append to a list what they make of each row of another: what is there and what is still to come are what is there in the end.
use Rattle.std.proofs.Common.{List, [], ap, arith, sym, ℕ, ◌++◌, ◌+◌, ◌∙◌, ◌∷◌, ◌≡◌, ◌≤◌}
use Rattle.std.proofs.lemmas.List.{append-nil, append_assoc}
use Rattle.std.specs.Prelude.{All}
use Rattle.counting.proofs.Lists.{left_after}
use Rattle.incidence.specs.Packed.{size_of}

-- the rows to come are to be `made coming`, which takes at most `room coming`, and `P` holds of each of them
pub record Extends (made : List (List ℕ) → List (List ℕ)) (room : List (List ℕ) → ℕ) (P : List ℕ → Type 0) (old all now coming : List (List ℕ)) : Type 0 where
  pub rows : now ++ made coming ≡ old ++ made all
  pub each : All P coming
  pub size : size_of now + room coming ≤ size_of old + room all

-- one row more
pub extends_next : (made : List (List ℕ) → List (List ℕ)) (room : List (List ℕ) → ℕ) (P : List ℕ → Type 0) (old all now coming new rest : List (List ℕ)) (row : List ℕ) (one : List (List ℕ)) →
    Extends made room P old all now coming → coming ≡ row ∷ rest → made (row ∷ rest) ≡ one ++ made rest → new ≡ now ++ one → size_of new + room rest ≤ size_of now + room (row ∷ rest) → Extends made room P old all new rest
extends_next made room P old all now coming new rest row one sofar is next more size = record {
  rows = ap (λ R. R ++ made rest) more ∙ append_assoc now one (made rest) ∙ ap (λ R. now ++ R) (sym next ∙ ap made (sym is)) ∙ sofar.rows;
  each = left_after P coming row rest is sofar.each;
  size = omega (arith, size, ap room is, sofar.size);
}

-- and when there are no more
pub extends_all : (made : List (List ℕ) → List (List ℕ)) (room : List (List ℕ) → ℕ) (P : List ℕ → Type 0) (old all now coming : List (List ℕ)) → Extends made room P old all now coming → coming ≡ [] → made [] ≡ [] → now ≡ old ++ made all
extends_all made room P old all now coming sofar done none = sym (append-nil now) ∙ ap (λ R. now ++ R) (sym none ∙ ap made (sym done)) ∙ sofar.rows
