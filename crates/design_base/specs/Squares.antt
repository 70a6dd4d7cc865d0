-- Mutually orthogonal Latin squares, as in the Handbook of Combinatorial Designs.
use Rattle.std.specs.Prelude.{ℕ, List, [], ◌+◌, ◌*◌, ◌==◌, ◌<◌, ◌≡◌, All, length, slice_index, slice_index_or}
use Rattle.std.proofs.Common.{◌&&◌}
use Rattle.counting.specs.Sums.{one, sum_below}
use Rattle.design_base.specs.Arrays.{IsRow}

-- the symbol of square s in row x and column y; the squares, of n rows each, stand one below the other
abbrev pub cell : List (List ℕ) → ℕ → ℕ → ℕ → ℕ → ℕ
cell L n s x y = slice_index (slice_index_or L (s * n + x) []) y

-- m squares of order n: each symbol once in each row and once in each column of a square, and for two squares each
-- ordered pair of symbols at exactly one cell
pub record IsMols (L : List (List ℕ)) (n m : ℕ) : Type 0 where
  pub count : length L ≡ m * n
  pub rows : All (IsRow n n) L
  pub in_rows : (s x a : ℕ) → s < m → x < n → a < n → sum_below n (λ y. one (cell L n s x y == a)) ≡ 1
  pub in_columns : (s y a : ℕ) → s < m → y < n → a < n → sum_below n (λ x. one (cell L n s x y == a)) ≡ 1
  pub orthogonal : (s t a b : ℕ) → s < t → t < m → a < n → b < n → sum_below n (λ x. sum_below n (λ y. one ((cell L n s x y == a) && (cell L n t x y == b)))) ≡ 1
