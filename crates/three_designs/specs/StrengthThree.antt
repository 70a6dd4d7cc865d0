-- Designs of strength three: what is asked of three columns of an array, or of three points.
use Rattle.std.specs.Prelude.{List, ℕ, ◌*◌, ◌<◌, ◌==◌, ◌≡◌, All, count_by, length, slice_index}
use Rattle.std.proofs.Common.{◌&&◌}
use Rattle.design_base.specs.Arrays.{IsRow}
use Rattle.design_base.specs.Blocks.{IsBlock, holds}

-- how many rows have a in column h, b in column i and c in column j
unfoldable pub agree_in_three : List (List ℕ) → ℕ → ℕ → ℕ → ℕ → ℕ → ℕ → ℕ
agree_in_three R h i j a b c = count_by (λ row. (slice_index row h == a) && ((slice_index row i == b) && (slice_index row j == c))) R

-- an orthogonal array of strength three: n * n * n rows of k symbols below n, and in three different columns each ordered
-- triple of symbols stands in exactly one row
pub record IsOa3 (R : List (List ℕ)) (k n : ℕ) : Type 0 where
  pub count : length R ≡ n * n * n
  pub rows : All (IsRow k n) R
  pub triples : (h i j a b c : ℕ) → h < i → i < j → j < k → a < n → b < n → c < n → agree_in_three R h i j a b c ≡ 1

-- in how many blocks x, y and z stand together
unfoldable pub cover_three : List (List ℕ) → ℕ → ℕ → ℕ → ℕ
cover_three blocks x y z = count_by (λ block. holds x block && (holds y block && holds z block)) blocks

-- a Steiner quadruple system: v points, blocks of four points, three points together in one block
pub record IsSqs (B : List (List ℕ)) (v : ℕ) : Type 0 where
  pub blocks : All (IsBlock v (λ size. size ≡ 4)) B
  pub triples : (x y z : ℕ) → x < y → y < z → z < v → cover_three B x y z ≡ 1
