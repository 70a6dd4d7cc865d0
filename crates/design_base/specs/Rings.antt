-- The laws of a commutative ring and of a field, on the numbers below its order.
use Rattle.std.specs.Prelude.{ℕ, ◌≡◌, ◌<◌}

-- The sum and product of other numbers are those of their remainders, so that most laws need no bound.
pub record IsCommutativeRing (q : ℕ) (add mul : ℕ → ℕ → ℕ) : Type 0 where
  pub sums_below : (x y : ℕ) → add x y < q
  pub sums_commute : (x y : ℕ) → add x y ≡ add y x
  pub sums_associate : (x y z : ℕ) → add (add x y) z ≡ add x (add y z)
  pub zero_neutral : (x : ℕ) → x < q → add x 0 ≡ x
  pub negatives : (x : ℕ) → (y : ℕ) × (y < q) × (add x y ≡ 0)
  pub products_below : (x y : ℕ) → mul x y < q
  pub products_commute : (x y : ℕ) → mul x y ≡ mul y x
  pub products_associate : (x y z : ℕ) → mul (mul x y) z ≡ mul x (mul y z)
  pub one_below : 1 < q
  pub one_neutral : (x : ℕ) → x < q → mul x 1 ≡ x
  pub products_distribute : (x y z : ℕ) → mul x (add y z) ≡ add (mul x y) (mul x z)

-- each element but 0 has an inverse
abbrev pub HasInverses : ℕ → (ℕ → ℕ → ℕ) → Type 0
HasInverses q mul = (x : ℕ) → 0 < x → x < q → (y : ℕ) × (y < q) × (mul x y ≡ 1)

pub record IsField (q : ℕ) (add mul : ℕ → ℕ → ℕ) : Type 0 where
  pub ring : IsCommutativeRing q add mul
  pub inverses : HasInverses q mul
