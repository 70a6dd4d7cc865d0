-- Lists that are joined over the numbers below a bound.
use Rattle.std.proofs.Common.{List, [], ap, arith, get_or, inl, inr, length, sym, suc, zero, ℕ, ◌*◌, ◌++◌, ◌+◌, ◌<◌, ◌∙◌, ◌∷◌, ◌≡◌}
use Rattle.counting.proofs.Booleans.{cases_eq}
use Rattle.std.proofs.lemmas.List.{get_or-append-add, get_or_append_left, length-append}
use Rattle.std.proofs.lemmas.Nat.{mul-add-lt}
use Rattle.counting.proofs.Ranges.{join_below-same}
use Rattle.counting.specs.Sums.{join_below, list_below}

pub list_below-same : {X : Type 0} (n : ℕ) (f g : ℕ → X) → ((i : ℕ) → i < n → f i ≡ g i) → list_below n f ≡ list_below n g
list_below-same n f g h = join_below-same n (λ i. f i ∷ []) (λ i. g i ∷ []) (λ i l. ap (λ x. x ∷ []) (h i l))

-- reading lists of one length that are joined
pub length-join_below : {X : Type 0} (m n : ℕ) (f : ℕ → List X) → ((i : ℕ) → i < m → length (f i) ≡ n) → length (join_below m f) ≡ m * n
unfolding join_below
length-join_below zero n f h = omega arith
length-join_below (suc m) n f h = omega (arith, length-append (join_below m f) (f m), length-join_below m n f (λ i l. h i (omega arith)), h m (omega arith))

pub get_or-join_below : {X : Type 0} (m n i x : ℕ) (f : ℕ → List X) (d : X) → ((i : ℕ) → i < m → length (f i) ≡ n) → i < m → x < n → get_or (join_below m f) (i * n + x) d ≡ get_or (f i) x d
unfolding join_below
get_or-join_below zero n i x f d h l k = absurd (omega arith)
get_or-join_below (suc m) n i x f d h l k = elim (cases_eq i m) [
  | inl e ↦ ap (λ z. get_or (join_below m f ++ f m) z d) (place i e) ∙ get_or-append-add (join_below m f) (f m) x d ∙ ap (λ j. get_or (f j) x d) (sym e)
  | inr ne ↦ get_or_append_left (join_below m f) (f m) d (i * n + x) (omega (arith, length-join_below m n f (λ i l. h i (omega arith)), mul-add-lt i n x m (omega arith) k)) ∙ get_or-join_below m n i x f d (λ i l. h i (omega arith)) (omega arith) k
]
  where
    place : (i : ℕ) → i ≡ m → i * n + x ≡ length (join_below m f) + x
    place i e = omega (arith, length-join_below m n f (λ i l. h i (omega arith)), ap (λ k. k * n) e)
