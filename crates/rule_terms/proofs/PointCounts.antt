-- The points of a projective geometry, counted dimension by dimension.
use Rattle.std.proofs.Common.{arith, suc, zero, ℕ, ◌*◌, ◌+◌, ◌-◌, ◌/◌, ◌<◌, ◌==◌, ◌^◌, ◌≡◌, ◌≤◌, false, ap, add-one}
use Rattle.std.proofs.Math.Nat.{div-lt_iff_lt-mul, mul-le-mul, pow-zero}
use Rattle.std.proofs.lemmas.Bool.Decides.{nat_tests}
use Rattle.counting.proofs.Counts.{sum_below-none, sum_below-suc}
use Rattle.counting.specs.Sums.{sum_below}
use Rattle.design_base.proofs.Geometries.{point_count-suc}
use Rattle.design_base.specs.Geometries.{point_count}

pub count_none : (q : ℕ) → point_count q 0 ≡ 1
unfolding point_count
count_none q = omega (arith, sum_below-suc 0 (λ i. q ^ i), sum_below-none (λ i. q ^ i), pow-zero q)

pub count_more : (q d count : ℕ) → count ≡ point_count q d → count * q + 1 ≡ point_count q (d + 1)
count_more q d count e = omega (arith, ap (λ n. n * q) e, point_count-suc q d, ap (λ n. point_count q n) (add-one d))

count_rises : (q m d : ℕ) → point_count q d ≤ point_count q (d + m)
unfolding point_count
count_rises q zero d = omega (arith, ap (λ n. sum_below n (λ i. q ^ i)) (let e : d + 0 + 1 ≡ d + 1 = omega arith in e))
count_rises q (suc m) d =
    omega (arith, count_rises q m d, sum_below-suc (d + m + 1) (λ i. q ^ i), ap (λ n. sum_below n (λ i. q ^ i)) (let e : d + suc m + 1 ≡ suc (d + m + 1) = omega arith in e))

-- more points than v in a dimension that is not larger
pub too_many : (v q i d count : ℕ) → i ≤ d → count ≡ point_count q i → v < count → false ≡ (v == point_count q d)
too_many v q i d count h e l = grind (arith, nat_tests, count_rises q (d - i) i, ap (λ n. point_count q n) (let f : i + (d - i) ≡ d = omega arith in f))

pub product_fits : (a b : ℕ) → a < 2 ^ 16 → b < 2 ^ 16 → a * b + 1 < 2 ^ 32
product_fits a b h k = let p : a * b ≤ (2 ^ 16 - 1) * (2 ^ 16 - 1) = mul-le-mul {n₁ = a} {m₁ = b} {n₂ = 2 ^ 16 - 1} {m₂ = 2 ^ 16 - 1} (omega arith) (omega arith) in omega (arith, p)

pub ruleset point_count_laws = (count_none, count_more, too_many, product_fits)

-- where blocks hold more than half of the points, there are fewer than twice as many as at a point
pub blocks_few : (v k r : ℕ) → v < 2 * k → v * r / k ≤ 2 * r
blocks_few v k r h =
    let most : v * r ≤ 2 * k * r = mul-le-mul {n₁ = v} {m₁ = r} {n₂ = 2 * k} {m₂ = r} (omega arith) (omega arith) in
    let below : v * r < suc (2 * r) * k = omega (arith, most, turn k r) in
    omega (arith, (div-lt_iff_lt-mul {k = k} {x = v * r} {y = suc (2 * r)} (omega arith)).1 below)
  where
    turn : (k r : ℕ) → suc (2 * r) * k ≡ 2 * k * r + k
    turn k r = omega arith
