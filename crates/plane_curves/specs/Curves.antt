-- Unitals and arcs, as block lists. A vector of the plane is a number whose digits to the base q are its entries, the first lowest.
use Rattle.std.specs.Prelude.{ℕ, ◌+◌, ◌*◌, ◌/◌, ◌%◌, ◌^◌, ◌==◌, ◌&&◌, Bool, List, nat_lt, not, unwrap_or}
use Rattle.counting.specs.Search.{each_passes, first_in}
use Rattle.counting.specs.Sums.{list_below}
use Rattle.design_base.specs.Fields.{field_product, field_sum}
use Rattle.field_tables.specs.Powers.{power}
use Rattle.spaces.specs.Lines.{projective_lines}
use Rattle.spaces.specs.Points.{points}
use Rattle.plane_curves.specs.Traces.{points_on, trace}

module _ (add mul : ℕ → ℕ → ℕ) where
  -- x ^ 2 + x * y + c * y ^ 2
  unfoldable pub quadratic : ℕ → ℕ → ℕ → ℕ
  quadratic c x y = add (mul x x) (add (mul x y) (mul c (mul y y)))

  -- x ^ 2 + x + c has no root
  unfoldable pub is_rootless : ℕ → ℕ → Bool
  is_rootless q c = each_passes (λ x. not (add (mul x x) (add x c) == 0)) (list_below q (λ x. x))

  -- the least such c, and 0 where there is none
  unfoldable pub least_rootless : ℕ → ℕ
  least_rootless q = unwrap_or (first_in (is_rootless q) (list_below q (λ c. c))) 0

  -- the vector is (1, x, y), and the form's value at (x, y) is below a bound
  unfoldable pub is_on_arc : ℕ → ℕ → ℕ → ℕ → Bool
  is_on_arc q c bound z = z % q == 1 && nat_lt (quadratic c (z / q % q) (z / q / q % q)) bound

  -- the sum of the n-th powers of the entries is 0
  unfoldable pub is_power_zero : ℕ → ℕ → ℕ → Bool
  is_power_zero q n z = add (power mul (z % q) n) (add (power mul (z / q % q) n) (power mul (z / q / q % q) n)) == 0

-- the lines of the plane over the field of q * q elements, cut down to the points of the Hermitian curve
unfoldable pub unital_blocks : ℕ → List (List ℕ)
unital_blocks q = trace (points_on (is_power_zero (field_sum (q * q)) (field_product (q * q)) (q * q) (q + 1)) (points (q * q) 3)) (projective_lines (q * q) 2)

-- those over the field of q elements, cut down to the points at which the form's value is below a bound
unfoldable pub form_blocks : ℕ → ℕ → List (List ℕ)
form_blocks q bound =
    let add = field_sum q in
    let mul = field_product q in
    trace (points_on (is_on_arc add mul q (least_rootless add mul q) bound) (points q 3)) (projective_lines q 2)

abbrev pub arc_blocks : ℕ → ℕ → List (List ℕ)
arc_blocks r s = form_blocks (2 ^ s) (2 ^ r)
