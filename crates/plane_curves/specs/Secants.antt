-- Vectors of three entries, and the lines of a plane that hold two vectors of a list.
use Rattle.std.proofs.Common.{get_or}
use Rattle.std.specs.Prelude.{ℕ, ◌%◌, ◌/◌, ◌<◌, ◌==◌, Bool, List, filter, length, map}
use Rattle.counting.specs.Sums.{list_below}
use Rattle.spaces.specs.Points.{points_below}
use Rattle.plane_curves.specs.declared.vectors.Vector.{Vector}

-- the digits of a number to the base q, the first one lowest
unfoldable pub entries : ℕ → ℕ → Vector
entries q z = record { a = z % q; b = z / q % q; c = z / q / q % q }

-- the entries are among the q elements of a field
pub record IsOver (q : ℕ) (x : Vector) : Type 0 where
  pub a : x.a < q
  pub b : x.b < q
  pub c : x.c < q

-- the points of a plane with numbers below a bound that are on a curve
unfoldable pub curve_points : ℕ → (ℕ → Bool) → ℕ → List Vector
curve_points q curve bound = map (entries q) (filter curve (points_below q 3 bound))

-- one half of the terms of the cross product of x and y; the other half is that of y and x
unfoldable pub half_cross : (ℕ → ℕ → ℕ) → Vector → Vector → Vector
half_cross mul x y = record { a = mul x.b y.c; b = mul x.c y.a; c = mul x.a y.b }

abbrev pub vector_at : List Vector → ℕ → Vector
vector_at V i = get_or V i (record { a = 0; b = 0; c = 0 })

module _ (add mul : ℕ → ℕ → ℕ) where
  unfoldable pub dot : Vector → Vector → ℕ
  dot x y = add (mul x.a y.a) (add (mul x.b y.b) (mul x.c y.c))

  -- the determinant of x, y and z is 0: its terms of one sign have the sum of those of the other
  unfoldable pub is_on_line : Vector → Vector → Vector → Bool
  is_on_line x y z = dot (half_cross mul x y) z == dot (half_cross mul y x) z

  -- the places below m of the vectors on the line of those at i and j
  unfoldable pub secant_below : List Vector → ℕ → ℕ → ℕ → List ℕ
  secant_below V i j m = filter (λ k. is_on_line (vector_at V i) (vector_at V j) (vector_at V k)) (list_below m (λ k. k))

  abbrev pub secant : List Vector → ℕ → ℕ → List ℕ
  secant V i j = secant_below V i j (length V)
