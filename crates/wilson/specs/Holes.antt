-- Orthogonal arrays without one row, or without two rows that differ in every column. The symbols of these rows become
-- the last ones of their columns.
use Rattle.std.specs.Prelude.{ℕ, ◌+◌, ◌-◌, ◌==◌, nat_lt, List, [], map, drop, remove, slice_index, slice_index_or, if◌then◌else◌}
use Rattle.std.specs.List.{position_or_len}
use Rattle.counting.specs.Sums.{one, sum_below, list_below}

-- f becomes m, and the other symbols up to m become 0 to m - 1 in ascending order
unfoldable pub renumbered : ℕ → ℕ → ℕ → ℕ
renumbered m f s = if s == f then m else s - one (nat_lt f s)

-- the row r, where in each of the k columns the symbol of f becomes m
unfoldable pub renumbered_row : ℕ → ℕ → List ℕ → List ℕ → List ℕ
renumbered_row k m f r = list_below k (λ j. renumbered m (slice_index f j) (slice_index r j))

-- the rows of R without the first one, f, renumbered
unfoldable pub holed : ℕ → ℕ → List (List ℕ) → List (List ℕ)
holed k m R = map (renumbered_row k m (slice_index_or R 0 [])) (drop 1 R)

-- f becomes m, e becomes m + 1, and the other symbols up to m + 1 become 0 to m - 1 in ascending order
unfoldable pub renumbered_twice : ℕ → ℕ → ℕ → ℕ → ℕ
renumbered_twice m f e s =
    if s == f then m else
    if s == e then m + 1 else
    s - one (nat_lt f s) - one (nat_lt e s)

-- the row r, where in each of the k columns the symbol of f becomes m, and that of e becomes m + 1
unfoldable pub renumbered_row_twice : ℕ → ℕ → List ℕ → List ℕ → List ℕ → List ℕ
renumbered_row_twice k m f e r = list_below k (λ j. renumbered_twice m (slice_index f j) (slice_index e j) (slice_index r j))

-- in how many of k columns r and f have the same symbol
unfoldable pub agreements : ℕ → List ℕ → List ℕ → ℕ
agreements k f r = sum_below k (λ j. one (slice_index r j == slice_index f j))

-- the place of the first row that differs from the first row of all in every column
unfoldable pub first_apart : ℕ → List (List ℕ) → ℕ
first_apart k R = position_or_len (λ r. agreements k (slice_index_or R 0 []) r == 0) R

-- the rows of R without the first one, f, and without the first one that differs from f in every column, e, renumbered
unfoldable pub holed_twice : ℕ → ℕ → List (List ℕ) → List (List ℕ)
holed_twice k m R =
    let i : ℕ = first_apart k R in
    map (renumbered_row_twice k m (slice_index_or R 0 []) (slice_index_or R i [])) (drop 1 (remove R i))
