-- How many points a projective geometry has.
use Rattle.std.specs.Prelude.{ℕ, ◌+◌, ◌^◌}
use Rattle.counting.specs.Sums.{sum_below}

-- 1 + q + .. + q ^ d: the points of dimension d over a field of q elements
unfoldable pub point_count : ℕ → ℕ → ℕ
point_count q d = sum_below (d + 1) (λ i. q ^ i)
