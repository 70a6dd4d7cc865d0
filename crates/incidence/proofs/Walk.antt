-- The step of a loop that goes over the elements of a list by their places, or appends them to another list.
use Rattle.std.proofs.Common.{List, Some, [], add-one, ap, append-nil, append_assoc, arith, drop, length, length-append, slice_get, suc, take, zero, ℕ, ◌+◌, ◌++◌, ◌∷◌, ◌≡◌, ◌≤◌}
use Rattle.std.proofs.lemmas.List.{take-append-le, take_all}
use Rattle.incidence.proofs.Sizes.{size_of-append, size_of-cons}

-- the elements gone over, and the next one
pub take_next : {X : Type 0} → (xs : List X) (i : ℕ) (x : X) → slice_get xs i ≡ Some x → take (i + 1) xs ≡ take i xs ++ x ∷ []
take_next [] i x is = cc
take_next (y ∷ ys) zero x is = let same : y ≡ x = cc in ap (λ z. z ∷ []) same
take_next (y ∷ ys) (suc i) x is = rw add-one (ap (λ zs. y ∷ zs) (rw add-one at (take_next ys i x is)))

-- the elements left, with the next one in front
pub drop_next : {X : Type 0} → (xs : List X) (i : ℕ) (x : X) → slice_get xs i ≡ Some x → drop i xs ≡ x ∷ drop (i + 1) xs
drop_next [] i x is = cc
drop_next (y ∷ ys) zero x is = let same : y ≡ x = cc in ap (λ z. z ∷ ys) same
drop_next (y ∷ ys) (suc i) x is = rw add-one (rw add-one at (drop_next ys i x is))

-- an element appended stands behind those in front
pub take_appended : {X : Type 0} → (count : ℕ) (xs : List X) (x : X) → count ≤ length xs → take count (xs ++ x ∷ []) ≡ take count xs
take_appended count xs x within = take-append-le count xs (x ∷ []) within

pub take_whole : {X : Type 0} → (xs : List X) → take (length xs) xs ≡ xs
take_whole xs = take_all (length xs) xs (omega arith)

pub ruleset appended = (append-nil, append_assoc, length-append, size_of-cons, size_of-append, take_appended, take_whole)
