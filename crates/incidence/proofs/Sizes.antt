-- The size of a list of rows, which is how many rows and numbers are packed.
use Rattle.std.proofs.Common.{IsPermutation, List, Some, [], ap, arith, length, length-append, slice_get, suc, take, zero, ℕ, ◌*◌, ◌+◌, ◌++◌, ◌∷◌, ◌≡◌, ◌≤◌}
use Rattle.std.proofs.lemmas.List.Sorted.{length_permutation, sum_by-IsPermutation}
use Rattle.std.proofs.lemmas.List.Sums.{sum_by-append, sum_by-cons}
use Rattle.std.specs.List.{AllByRecursion}
use Rattle.incidence.specs.Packed.{size_of}

pub size_of-cons : (row : List ℕ) (rows : List (List ℕ)) → size_of (row ∷ rows) ≡ size_of rows + length row + 1
size_of-cons row rows = omega (arith, sum_by-cons length row rows)

pub size_of-append : (xs ys : List (List ℕ)) → size_of (xs ++ ys) ≡ size_of xs + size_of ys
size_of-append xs ys = omega (arith, length-append xs ys, sum_by-append length xs ys)

-- the rows before a place and the one at it are together not more than all
pub size_of-next : (rows : List (List ℕ)) (i : ℕ) (row : List ℕ) → slice_get rows i ≡ Some row → size_of (take i rows) + length row + 1 ≤ size_of rows
size_of-next [] i row is = cc
size_of-next (r ∷ rows) zero row is = let same : r ≡ row = cc in omega (arith, size_of-cons r rows, ap length same)
size_of-next (r ∷ rows) (suc i) row is = omega (arith, size_of-cons r rows, size_of-cons r (take i rows), size_of-next rows i row is)

-- rows that are all of one length
pub size_of-uniform : (k : ℕ) (rows : List (List ℕ)) → AllByRecursion (λ row. length row ≡ k) rows → size_of rows ≡ (k + 1) * length rows
size_of-uniform k [] each = omega arith
size_of-uniform k (row ∷ rows) each = omega (arith, size_of-cons row rows, each.0, size_of-uniform k rows each.1)

-- the order of the rows is no matter for their size
pub size_of_permuted : (rows order : List (List ℕ)) → IsPermutation rows order → size_of order ≡ size_of rows
size_of_permuted rows order moved = omega (arith, length_permutation rows order moved, sum_by-IsPermutation length rows order moved)

pub ruleset sizes = (size_of-cons, size_of-append, size_of-next)
