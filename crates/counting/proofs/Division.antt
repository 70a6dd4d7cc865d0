-- Numbers that divide others.
use Rattle.std.proofs.Common.{arith, ℕ, ◌%◌, ◌*◌, ◌/◌, ◌≡◌}
use Rattle.std.proofs.Math.Nat.{div-add-mod'}

-- k divides n
pub whole_times : (n k : ℕ) → n % k ≡ 0 → n / k * k ≡ n
whole_times n k e = omega (arith, div-add-mod' n k)
