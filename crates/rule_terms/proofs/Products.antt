-- A product is above its factors.
use Rattle.std.proofs.Common.{ℕ, ◌*◌, ◌<◌, ◌≤◌, arith}
use Rattle.std.proofs.Math.Nat.{mul-le-mul, mul-le-mul_left}

pub below_multiple : (c n : ℕ) → 2 ≤ c → 1 ≤ n → n < c * n
below_multiple c n lc ln = let p : 2 * n ≤ c * n = mul-le-mul lc (omega arith) in omega arith

pub factors_within : (a b n : ℕ) → 1 ≤ a → 1 ≤ b → a * b ≤ n → (a ≤ n) × (b ≤ n)
factors_within a b n la lb h =
    let p : a * 1 ≤ a * b = mul-le-mul_left a lb in
    let q : 1 * b ≤ a * b = mul-le-mul la (omega arith) in
    (omega arith, omega arith)
