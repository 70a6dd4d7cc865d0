-- The sizes of block designs under the names of a question.
use Rattle.std.specs.Prelude.{ℕ, ◌≡◌}

-- so many points, so many of them in a block, and each two points in one block
pub record HasSizes (v k l points size : ℕ) : Type 0 where
  pub all : points ≡ v
  pub block : size ≡ k
  pub once : 1 ≡ l
