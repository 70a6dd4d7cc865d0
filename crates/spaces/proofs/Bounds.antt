-- Bounds on the dimension, the order and the vectors of a geometry, from the number of its points.
use Rattle.std.proofs.Common.{ap, arith, subst, suc, zero, ℕ, ◌*◌, ◌+◌, ◌-◌, ◌<◌, ◌^◌, ◌≡◌, ◌≤◌}
use Rattle.std.proofs.Math.Nat.{mul-le-mul_left, mul-le-mul_right, one-le-pow, pow-le-pow_right, pow-suc, pow-zero}
use Rattle.counting.proofs.Counts.{sum_below-none, sum_below-suc}
use Rattle.counting.specs.Sums.{sum_below}
use Rattle.design_base.specs.declared.limits.TheConstants.{POINTS_MAX}
use Rattle.field_tables.proofs.Listed.{order_above}
use Rattle.design_base.proofs.Geometries.{count_vectors}
use Rattle.design_base.specs.Geometries.{point_count}

powers_many : (q n : ℕ) → 0 < q → n ≤ sum_below n (λ i. q ^ i)
powers_many q zero pos = omega arith
powers_many q (suc n) pos = omega (arith, sum_below-suc n (λ i. q ^ i), powers_many q n pos, one-le-pow n q pos)

two_powers : (q n : ℕ) → q + 1 ≤ sum_below (suc (suc n)) (λ i. q ^ i)
two_powers q zero = omega (arith, sum_below-suc 1 (λ i. q ^ i), sum_below-suc 0 (λ i. q ^ i), sum_below-none (λ i. q ^ i), pow-zero q, pow-suc q 0, ap (λ t. t * q) (pow-zero q))
two_powers q (suc n) = omega (arith, sum_below-suc (suc (suc n)) (λ i. q ^ i), two_powers q n)

pub dimension_small : (q d : ℕ) → 1 < q → d + 1 ≤ point_count q d
unfolding point_count
dimension_small q d h = powers_many q (d + 1) (omega arith)

pub order_small : (q d : ℕ) → 1 ≤ d → q + 1 ≤ point_count q d
unfolding point_count
order_small q zero h = absurd (omega arith)
order_small q (suc d) h = subst (λ m. q + 1 ≤ sum_below m (λ i. q ^ i)) (let e : suc (suc d) ≡ suc d + 1 = omega arith in e) (two_powers q d)

pub vectors_fit : (q d : ℕ) → 1 ≤ d → point_count q d ≤ POINTS_MAX → q ^ (d + 1) < 2 ^ 16
vectors_fit q d h few =
    let s = point_count q d in
    let most : s * q ≤ s * (POINTS_MAX - 1) = mul-le-mul_left s (let e : q ≤ POINTS_MAX - 1 = omega (arith, order_small q d h) in e) in
    let small : s * (POINTS_MAX - 1) ≤ POINTS_MAX * (POINTS_MAX - 1) = mul-le-mul_right (POINTS_MAX - 1) few in
    omega (arith, count_vectors q d, most, small)

pub some_vectors : (q n : ℕ) → 1 < q → 0 < q ^ n
some_vectors q n h = one-le-pow n q (omega arith)

pub order_below : (q d : ℕ) → 1 < q → 1 ≤ d → q ≤ q ^ d
order_below q d h pos =
    let more : q ^ 1 ≤ q ^ d = pow-le-pow_right (let e : 0 < q = omega arith in e) pos in
    omega (arith, more, pow-suc q 0, ap (λ t. t * q) (pow-zero q))

pub entries_below : (q n : ℕ) → 1 < q → n ≤ q ^ n
entries_below q zero h = omega arith
entries_below q (suc n) h =
    let more : 2 * q ^ n ≤ q * q ^ n = mul-le-mul_right (q ^ n) h in
    omega (arith, more, pow-suc q n, entries_below q n h, one-le-pow n q (let pos : 0 < q = omega arith in pos))

pub ruleset bounds = (dimension_small, order_small, vectors_fit, some_vectors, order_below, order_above, entries_below)
