-- Squares of numbers: the entry in row x and column y is a product of x and y.
use Rattle.std.specs.Prelude.{ℕ, ◌%◌, ◌*◌, ◌+◌, ◌-◌, ◌/◌, ◌<◌, ◌==◌, ◌≡◌, ◌≢◌}
use Rattle.std.proofs.Common.{cond}
use Rattle.triple_systems.specs.declared.squares.Square.{Square}
use Rattle.triple_systems.specs.declared.squares.Square.TheVariants.{HalfIdempotent, HalfSums, Idempotent}

-- a Latin square of order n: each row and each column has each number below n once
pub record IsLatin (n : ℕ) (op : ℕ → ℕ → ℕ) : Type 0 where
  pub small : (x y : ℕ) → x < n → y < n → op x y < n
  pub row_cancels : (x y z : ℕ) → x < n → y < n → z < n → op x y ≡ op x z → y ≡ z
  pub row_solves : (x z : ℕ) → x < n → z < n → (y : ℕ) × (y < n) × (op x y ≡ z)
  pub column_cancels : (x y z : ℕ) → x < n → y < n → z < n → op y x ≡ op z x → y ≡ z
  pub column_solves : (x z : ℕ) → x < n → z < n → (y : ℕ) × (y < n) × (op y x ≡ z)

-- a Latin square that is its own mirror image
pub record IsSymmetric (n : ℕ) (op : ℕ → ℕ → ℕ) : Type 0 where
  pub latin : IsLatin n op
  pub turns : (x y : ℕ) → x < n → y < n → op x y ≡ op y x

-- x and x give x
abbrev pub IsIdempotent : ℕ → (ℕ → ℕ → ℕ) → Type 0
IsIdempotent n op = (x : ℕ) → x < n → op x x ≡ x

-- the half of x + y modulo an odd number n
unfoldable pub half_sum : ℕ → ℕ → ℕ → ℕ
half_sum n x y = (n + 1) / 2 * (x + y) % n

-- the numbers after x and before y, modulo n
abbrev pub up : ℕ → ℕ → ℕ
up n x = (x + 1) % n

abbrev pub down : ℕ → ℕ → ℕ
down n y = (y + (n - 1)) % n

-- the half sums of an odd order n in a square of order n + 1: the entry in row x and column x + 1 gives its place to n,
-- and stands in the last row and in the last column
unfoldable pub prolonged : ℕ → ℕ → ℕ → ℕ
prolonged n x y =
    cond (x == n)
    (cond (y == n) n (half_sum n (down n y) y))
    (cond (y == n) (half_sum n x (up n x)) (cond (y == up n x) n (half_sum n x y)))

-- the idempotent square of each order n but 2
unfoldable pub idempotent : ℕ → ℕ → ℕ → ℕ
idempotent n x y = cond (n % 2 == 1) (half_sum n x y) (prolonged (n - 1) x y)

-- half of an even z, and for an odd z half of z - 1, moved by t
unfoldable pub halve : ℕ → ℕ → ℕ
halve t z = cond (z % 2 == 0) (z / 2) ((z - 1) / 2 + t)

-- the square of the even order 2t in which x and x give x, and x + t and x + t give x, for x below t
unfoldable pub half_idempotent : ℕ → ℕ → ℕ → ℕ
half_idempotent t x y = halve t ((x + y) % (2 * t))

-- the products of a square of order n
abbrev pub product_of : Square → ℕ → ℕ → ℕ → ℕ
product_of HalfSums n = half_sum n
product_of HalfIdempotent n = half_idempotent (n / 2)
product_of Idempotent n = idempotent n

-- the orders of the squares
abbrev pub HasOrder : Square → ℕ → Type 0
HasOrder HalfSums n = 0 < n
HasOrder HalfIdempotent n = (0 < n) × (n % 2 ≡ 0)
HasOrder Idempotent n = (0 < n) × (n ≢ 2)
