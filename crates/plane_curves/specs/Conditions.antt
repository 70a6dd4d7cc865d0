-- What the designs on curves ask of their numbers.
use Rattle.std.specs.Prelude.{true, ℕ, ◌+◌, ◌-◌, ◌^◌, ◌<◌, ◌≡◌, ◌≤◌}
use Rattle.design_base.specs.Fields.{has_field}
use Rattle.design_base.specs.declared.limits.TheConstants.{POINTS_MAX}

-- the Hermitian curve over the field of q * q elements
pub record CanBuildUnital (q : ℕ) : Type 0 where
  pub order : 2 ≤ q
  pub listed : has_field (q ^ 2) ≡ true
  pub points : q ^ 3 + 1 ≤ POINTS_MAX

-- the number of points of the arc
abbrev pub arc_size : ℕ → ℕ → ℕ
arc_size r s = 2 ^ (r + s) + 2 ^ r - 2 ^ s

-- the arc over the field of 2 ^ s elements whose lines hold 2 ^ r points
pub record CanBuildArc (r s : ℕ) : Type 0 where
  pub two_points : 1 ≤ r
  pub smaller : r < s
  pub listed : s ≤ 7
  pub points : arc_size r s ≤ POINTS_MAX
