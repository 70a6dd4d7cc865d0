-- What the bounds of a question for a transversal design give.
use Rattle.std.proofs.Common.{arith, true, ℕ, ◌*◌, ◌+◌, ◌<◌, ◌≡◌, ◌≤◌}
use Rattle.std.proofs.Math.Nat.{mul-le-mul}
use Rattle.std.proofs.lemmas.Bool.Decides.{nat_tests}
use Rattle.design_base.specs.Limits.{in_bounds}
use Rattle.design_base.specs.declared.limits.TheConstants.{PACKED_MAX, TD_K_MAX, TD_N_MAX}
use Rattle.design_base.specs.declared.query.Query.TheVariants.{Td}

pub record TdBounds (k n : ℕ) : Type 0 where
  pub two : 2 ≤ k
  pub few : k ≤ TD_K_MAX
  pub positive : 0 < n
  pub small : n ≤ TD_N_MAX

pub td_bounds : (k n : ℕ) → in_bounds (Td k n) ≡ true → TdBounds k n
unfolding in_bounds
td_bounds k n e = record { two = grind (arith, nat_tests); few = grind (arith, nat_tests); positive = grind (arith, nat_tests); small = grind (arith, nat_tests) }

-- n * n rows of m numbers have room, and one row after another
pub cells_fit : (n m c : ℕ) → n ≤ TD_N_MAX → m ≤ TD_K_MAX + 1 → c < n * n → c * m + m < PACKED_MAX
cells_fit n m c small few l = omega (arith, mul-le-mul small small, mul-le-mul (at_most l) few)
  where
    at_most : c < n * n → c + 1 ≤ TD_N_MAX * TD_N_MAX
    at_most h = omega (arith, mul-le-mul small small)

-- the same for m parts of n rows of w numbers
pub parts_fit : (n m w s : ℕ) → n ≤ TD_N_MAX → m ≤ TD_K_MAX → w ≤ TD_K_MAX + 1 → s < m → s * (n * w) + n * w < PACKED_MAX
parts_fit n m w s small few wide l = omega (arith, mul-le-mul small wide, mul-le-mul (at_most l) (mul-le-mul small wide))
  where
    at_most : s < m → s + 1 ≤ TD_K_MAX
    at_most h = omega arith

-- one of n rows of w numbers
pub row_fits : (n w x : ℕ) → x < n → x * w + w ≤ n * w
row_fits n w x l = omega (arith, mul-le-mul (at_most l) (same w))
  where
    at_most : x < n → x + 1 ≤ n
    at_most h = omega arith

    same : (w : ℕ) → w ≤ w
    same w = omega arith
