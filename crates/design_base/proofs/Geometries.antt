-- The points of a projective geometry, dimension by dimension.
use Rattle.std.proofs.Common.{ap, arith, suc, zero, ℕ, ◌*◌, ◌+◌, ◌^◌, ◌∙◌, ◌≡◌, sym}
use Rattle.std.proofs.Math.Nat.{pow-suc, pow-zero}
use Rattle.counting.proofs.Counts.{sum_below-none, sum_below-suc}
use Rattle.counting.specs.Sums.{sum_below}
use Rattle.design_base.specs.Geometries.{point_count}

-- the vectors are one more than q - 1 times the points
pub count_vectors : (q d : ℕ) → point_count q d * q + 1 ≡ point_count q d + q ^ (d + 1)
unfolding point_count
count_vectors q d = each (d + 1)
  where
    each : (n : ℕ) → sum_below n (λ i. q ^ i) * q + 1 ≡ sum_below n (λ i. q ^ i) + q ^ n
    each zero = omega (arith, pow-zero q, sum_below-none (λ i. q ^ i), ap (λ t. t * q) (sum_below-none (λ i. q ^ i)))
    each (suc n) = omega (arith, each n, pow-suc q n, sum_below-suc n (λ i. q ^ i), ap (λ t. t * q) (sum_below-suc n (λ i. q ^ i)))

-- the points of one more dimension
pub point_count-suc : (q d : ℕ) → point_count q (suc d) ≡ point_count q d * q + 1
unfolding point_count
point_count-suc q d = ap (λ n. sum_below n (λ i. q ^ i)) (let e : suc d + 1 ≡ suc (d + 1) = omega arith in e) ∙ sum_below-suc (d + 1) (λ i. q ^ i) ∙ sym (count_vectors q d)
