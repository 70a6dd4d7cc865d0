-- The rows at the front of a list.
use Rattle.std.proofs.Common.{◌≡◌, ℕ, zero, suc, ◌≤◌, List, [], ◌∷◌, length, get_or, take, refl, ap, ◌∙◌, arith}
use Rattle.std.specs.List.{slice_range}
use Rattle.std.proofs.lemmas.List.{take-take, take_all, length-take-le}
use Rattle.incidence.specs.Packed.{rows_from, AreEnds}
use Rattle.incidence.proofs.Packing.{start_within, length-rows_from}
use Rattle.incidence.proofs.Pieces.{rows_from_front}

-- the ends of so many rows, and that they are within the numbers
front_ends : (start : ℕ) (ends : List ℕ) (total n : ℕ) → AreEnds start ends total → n ≤ length ends → AreEnds start (take n ends) (get_or (start ∷ ends) n 0) × (get_or (start ∷ ends) n 0 ≤ total)
front_ends start ends total zero are within = (refl, start_within start ends total are)
front_ends start [] total (suc n) are within = absurd (omega arith)
front_ends start (end ∷ ends) total (suc n) are within = let rest = front_ends end ends total n are.1 (omega arith) in ((are.0, rest.0), rest.1)

-- fewer ends give fewer rows
rows_from-take : (start : ℕ) (ends numbers : List ℕ) (n : ℕ) → rows_from start (take n ends) numbers ≡ take n (rows_from start ends numbers)
rows_from-take start ends numbers zero = refl
rows_from-take start [] numbers (suc n) = refl
rows_from-take start (end ∷ ends) numbers (suc n) = ap (λ rows. slice_range numbers start end ∷ rows) (rows_from-take end ends numbers n)

-- the numbers up to a place are those of the first n rows
pub record IsFront (ends numbers : List ℕ) (n middle : ℕ) : Type 0 where
  pub rows : rows_from 0 (take n ends) (take middle numbers) ≡ take n (rows_from 0 ends numbers)
  pub fit : AreEnds 0 (take n ends) (length (take middle numbers))
  pub inside : middle ≤ length numbers

pub front_of : (ends numbers : List ℕ) (n middle : ℕ) → AreEnds 0 ends (length numbers) → n ≤ length ends → middle ≡ get_or (0 ∷ ends) n 0 → IsFront ends numbers n middle
front_of ends numbers n middle are within is =
    let front = front_ends 0 ends (length numbers) n are within in
    let inside : middle ≤ length numbers = rw (← is) at front.1 in
    let fronts : AreEnds 0 (take n ends) middle = rw (← is) at front.0 in
    record {
      rows = rows_from_front 0 (take n ends) middle (take middle numbers) numbers fronts (take-take middle middle numbers (omega arith)) ∙ rows_from-take 0 ends numbers n;
      fit = rw (← length-take-le middle numbers inside) at fronts;
      inside = inside;
    }

-- no row is left out
pub front_all : (ends numbers : List ℕ) (n : ℕ) → length ends ≤ n → take n (rows_from 0 ends numbers) ≡ rows_from 0 ends numbers
front_all ends numbers n all = take_all n (rows_from 0 ends numbers) (omega (arith, length-rows_from 0 ends numbers))
