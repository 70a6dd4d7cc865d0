-- The steps of the loop that multiplies up to a power.
use Rattle.std.proofs.Common.{ap, arith, refl, suc, ℕ, ◌+◌, ◌≡◌}
use Rattle.field_tables.proofs.Listed.{order_above}
use Rattle.field_tables.specs.Powers.{power}

pub power_none : (mul : ℕ → ℕ → ℕ) (g : ℕ) → power mul g 0 ≡ 1
unfolding power
power_none mul g = refl

pub power_more : (mul : ℕ → ℕ → ℕ) (g n : ℕ) → power mul g (n + 1) ≡ mul (power mul g n) g
unfolding power
power_more mul g n = ap (power mul g) (let e : n + 1 ≡ suc n = omega arith in e)

pub ruleset power_steps = (power_none, power_more, order_above)
