-- The points of a projective geometry: of each vector but 0 and its multiples, the one whose first nonzero entry is 1.
use Rattle.std.specs.Prelude.{ℕ, ◌^◌, ◌==◌, ◌<◌, ◌≡◌, List, [], ◌∷◌, filter, if◌then◌else◌, length}
use Rattle.std.proofs.Common.{get_or}
use Rattle.counting.specs.Sums.{list_below}
use Rattle.design_base.specs.Digits.{digits}
use Rattle.spaces.specs.Vectors.{multiple}

-- the first entry that is not 0, and 0 where there is none
abbrev pub first_nonzero : List ℕ → ℕ
first_nonzero [] = 0
first_nonzero (x ∷ xs) = if x == 0 then first_nonzero xs else x

unfoldable pub lead : ℕ → ℕ → ℕ → ℕ
lead q n x = first_nonzero (digits q n x)

-- the vectors below a bound that are points, in the order of their numbers
unfoldable pub points_below : ℕ → ℕ → ℕ → List ℕ
points_below q n bound = filter (λ x. lead q n x == 1) (list_below bound (λ x. x))

-- the points among the vectors of n entries
unfoldable pub points : ℕ → ℕ → List ℕ
points q n = points_below q n (q ^ n)

-- the point at the place i is a multiple of x
pub record IsPlace (mul : ℕ → ℕ → ℕ) (q n x i : ℕ) : Type 0 where
  pub factor : ℕ
  pub small : factor < q
  pub within : i < length (points q n)
  pub equal : multiple mul q n factor x ≡ get_or (points q n) i 0

-- the list holds a place of each vector but 0 below a bound
pub record ArePlaces (mul : ℕ → ℕ → ℕ) (q n bound : ℕ) (places : List ℕ) : Type 0 where
  pub count : length places ≡ bound
  pub each : (x : ℕ) → 0 < x → x < bound → IsPlace mul q n x (get_or places x 0)

-- the numbers below v, in order
pub record AreNumbers (v : ℕ) (xs : List ℕ) : Type 0 where
  pub count : length xs ≡ v
  pub each : (i : ℕ) → i < v → get_or xs i 0 ≡ i
