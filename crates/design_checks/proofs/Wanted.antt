-- How often two points are to stand together.
use Rattle.std.proofs.Common.{arith, cond, inl, inr, refl, ℕ, ◌*◌, ◌+◌, ◌/◌, ◌<◌, ◌≡◌, ◌≤◌}
use Rattle.std.proofs.Math.Nat.{div-mul-le_self}
use Rattle.counting.proofs.Booleans.{cases_lt, eq-eqb, le-ltb, lt-ltb, ne_eqb}
use Rattle.std.proofs.lemmas.Nat.{div_below, le-div}
use Rattle.std.specs.Prelude.{nat_lt}
use Rattle.design_base.specs.Blocks.{across}

-- the points of x's group above x end where the next group begins
pub end_of_group : (g x y : ℕ) → 0 < g → x < y → across g x y ≡ cond (nat_lt y ((x / g + 1) * g)) 0 1
unfolding across
end_of_group g x y pos l = elim (cases_lt y ((x / g + 1) * g)) [
  | inl m ↦ rw (lt-ltb y ((x / g + 1) * g) m, eq-eqb (x / g) (y / g) (omega (arith, upward, div_below y g (x / g + 1) pos m))) refl
  | inr m ↦ rw (le-ltb y ((x / g + 1) * g) m, ne_eqb (x / g) (y / g) (λ e. absurd (omega (arith, e, le-div (x / g + 1) y g pos m)))) refl
]
  where
    upward : x / g ≤ y / g
    upward = le-div (x / g) y g pos (omega (arith, div-mul-le_self x g, l))
