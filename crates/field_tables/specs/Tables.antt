-- What the tables of a field hold.
use Rattle.std.specs.Prelude.{ℕ, ◌≡◌, ◌<◌, ◌≤◌, ◌*◌, ◌/◌, ◌%◌, ◌+◌, ◌==◌, List, length, map, slice_index_or, slice_index, if◌then◌else◌, Option, None, Some}
use Rattle.counting.specs.Search.{first_in}
use Rattle.design_base.specs.Polynomials as polynomials
use Rattle.design_base.specs.Digits.{reduce, digits, number}
use Rattle.design_base.specs.Fields.{Modulus, modulus, modulus_of, order, negated, field_sum, field_product, has_field}
use Rattle.design_base.specs.declared.limits.TheConstants.{POINTS_MAX}
use Rattle.field_tables.specs.declared.polynomial.Polynomial.{Polynomial}

abbrev pub modulus_in : Polynomial → Modulus
modulus_in f = modulus f.prime f.lower.now

-- the polynomial is the one listed for its order
abbrev pub IsListed : Polynomial → Type 0
IsListed f = modulus_of f.order ≡ Some (modulus_in f)

-- the first of the polynomials whose field has q elements
abbrev pub found_in : ℕ → List Polynomial → Option Modulus
found_in q fs = first_in (λ s. order s == q) (map modulus_in fs)

-- x to the degree, as an element
abbrev pub excess : Modulus → ℕ
excess s = number s.prime (reduce s.prime (negated s))

-- x times an element
abbrev pub shifted : Modulus → ℕ → ℕ
shifted s y = number s.prime (reduce s.prime (polynomials.shift (negated s) (digits s.prime (length s.lower) y)))

-- the values of f at the numbers from 0 on
abbrev pub IsValues : (ℕ → ℕ) → List ℕ → Type 0
IsValues f t = (k : ℕ) → k < length t → slice_index t k ≡ f k

-- the values of f on the numbers below q, row by row
abbrev pub by_rows : (ℕ → ℕ → ℕ) → ℕ → ℕ → ℕ
by_rows f q k = f (k / q) (k % q)

pub record IsTable (f : ℕ → ℕ → ℕ) (q : ℕ) (t : List ℕ) : Type 0 where
  pub size : length t ≡ q * q
  pub entries : IsValues (by_rows f q) t

-- an element y with f x y = target for each x from low on
pub record IsSolved (f : ℕ → ℕ → ℕ) (target low q : ℕ) (t : List ℕ) : Type 0 where
  pub size : length t ≡ q
  pub solved : (x : ℕ) → low ≤ x → x < length t → (slice_index t x < q) × (f x (slice_index t x) ≡ target)

-- q, if it is the order of a field
abbrev pub field_order : ℕ → Option ℕ
field_order q = (if has_field q then Some q else None)

-- the fields by their orders, from 0 on
pub record IsComplete (fields : List (Option ℕ)) : Type 0 where
  pub size : length fields ≡ POINTS_MAX + 1
  pub each : (q : ℕ) → q < length fields → slice_index_or fields q None ≡ field_order q

-- the field computes with remainders
pub record IsModular (q : ℕ) : Type 0 where
  pub sums : (x y : ℕ) → field_sum q x y ≡ (x + y) % q
  pub products : (x y : ℕ) → field_product q x y ≡ x * y % q
