-- Numbers that are equal modulo n.
use Rattle.std.proofs.Common.{ap, arith, sym, ℕ, ◌%◌, ◌*◌, ◌+◌, ◌-◌, ◌/◌, ◌<◌, ◌∙◌, ◌≡◌}
use Rattle.std.proofs.Math.Nat.{add-mul-mod_self_right, div-add-mod', mod-eq_of_lt, mod-lt}

-- a and b are equal modulo n: they become equal when multiples of n are added
pub record Same (n a b : ℕ) : Type 0 where
  pub up : ℕ
  pub down : ℕ
  pub equal : a + up * n ≡ b + down * n

pub same_from_mod : (n a b : ℕ) → a % n ≡ b % n → Same n a b
same_from_mod n a b e = record { up = b / n; down = a / n; equal = omega (arith, div-add-mod' a n, div-add-mod' b n) }

pub mod_from_same : (n a b : ℕ) → Same n a b → a % n ≡ b % n
mod_from_same n a b s = sym (add-mul-mod_self_right a s.up n) ∙ ap (λ x. x % n) s.equal ∙ add-mul-mod_self_right b s.down n

-- two numbers below n that are equal modulo n are equal
pub equal_from_same : (n a b : ℕ) → a < n → b < n → Same n a b → a ≡ b
equal_from_same n a b l m s = sym (mod-eq_of_lt l) ∙ mod_from_same n a b s ∙ mod-eq_of_lt m

-- a number is the same as its remainder
pub same_mod : (n a : ℕ) → Same n (a % n) a
same_mod n a = record { up = a / n; down = 0; equal = omega (arith, div-add-mod' a n) }

-- adding x modulo n cancels, and reaches each number below n
pub add_cancels : (n x y z : ℕ) → y < n → z < n → (x + y) % n ≡ (x + z) % n → y ≡ z
add_cancels n x y z l m e = let s = same_from_mod n (x + y) (x + z) e in equal_from_same n y z l m (record { up = s.up; down = s.down; equal = omega (arith, s.equal) })

pub add_solves : (n x z : ℕ) → x < n → z < n → (y : ℕ) × (y < n) × ((x + y) % n ≡ z)
add_solves n x z l m = let s = same_mod n (z + (n - x)) in
    ((z + (n - x)) % n, mod-lt (z + (n - x)) (omega arith), mod_from_same n (x + (z + (n - x)) % n) z (record { up = s.up; down = s.down + 1; equal = omega (arith, s.equal) }) ∙ mod-eq_of_lt m)
