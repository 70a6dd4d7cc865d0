-- Orthogonal arrays, as in the Handbook of Combinatorial Designs, and the blocks that their rows stand for.
use Rattle.std.specs.Prelude.{ℕ, List, ◌+◌, ◌*◌, ◌%◌, ◌==◌, ◌<◌, ◌≡◌, All, length, count_by, map, slice_index}
use Rattle.std.proofs.Common.{◌&&◌}
use Rattle.counting.specs.Sums.{list_below}

-- point x of group i, where a group has n points
unfoldable pub place : ℕ → ℕ → ℕ → ℕ
place n i x = i * n + x

-- the block of the row f 0, f 1, .., f (k - 1): its entry in column j is a point of group j
unfoldable pub row_block : ℕ → ℕ → (ℕ → ℕ) → List ℕ
row_block k n f = list_below k (λ j. place n j (f j))

-- the blocks of rows of k symbols below n
unfoldable pub blocks_of_rows : ℕ → ℕ → List (List ℕ) → List (List ℕ)
blocks_of_rows k n R = map (λ row. row_block k n (λ j. slice_index row j)) R

-- the rows of blocks that hold one point of each group, in the order of the groups
unfoldable pub rows_of_blocks : ℕ → List (List ℕ) → List (List ℕ)
rows_of_blocks n B = map (map (λ x. x % n)) B

-- how many rows have a in column i and b in column j
unfoldable pub agree : List (List ℕ) → ℕ → ℕ → ℕ → ℕ → ℕ
agree R i j a b = count_by (λ row. (slice_index row i == a) && (slice_index row j == b)) R

-- k symbols below n
pub record IsRow (k n : ℕ) (row : List ℕ) : Type 0 where
  pub size : length row ≡ k
  pub below : All (λ a. a < n) row

-- an orthogonal array: n * n rows of k symbols below n, and in two different columns each ordered pair of symbols
-- stands in exactly one row
pub record IsOa (R : List (List ℕ)) (k n : ℕ) : Type 0 where
  pub count : length R ≡ n * n
  pub rows : All (IsRow k n) R
  pub pairs : (i j a b : ℕ) → i < j → j < k → a < n → b < n → agree R i j a b ≡ 1
