-- Wilson's constructions by one and by two truncated groups, as in the Handbook of Combinatorial Designs (Colbourn,
-- Dinitz): their rows, and the blocks that the rows stand for. The master has groups of t points. In each group of the new
-- design the point x * m + i stands for the master's point x and the symbol i below m, and the points from m * t on are
-- infinite.
use Rattle.std.specs.Prelude.{ℕ, ◌+◌, ◌-◌, ◌*◌, nat_lt, List, [], ◌∷◌, ◌++◌, map, flat_map, slice_index, if◌then◌else◌}
use Rattle.counting.specs.Sums.{list_below}
use Rattle.design_base.specs.Arrays.{blocks_of_rows, rows_of_blocks}
use Rattle.transversal.specs.Constructions.{raised}
use Rattle.wilson.specs.Holes.{holed, holed_twice}

-- a symbol s below m gives the point x * m + s, and the symbols m, m + 1, .. give the infinite points in their order
unfoldable pub filled : ℕ → List ℕ → ℕ → ℕ → ℕ
filled m infinite x s = if nat_lt s m then x * m + s else slice_index infinite (s - m)

-- the row r of an ingredient, put on the points of the master row a and on infinite points
unfoldable pub filled_row : ℕ → ℕ → List ℕ → List ℕ → List ℕ → List ℕ
filled_row k m infinite a r = list_below k (λ j. filled m infinite (slice_index a j) (slice_index r j))

-- all rows of an ingredient
unfoldable pub filled_rows : ℕ → ℕ → List ℕ → List ℕ → List (List ℕ) → List (List ℕ)
filled_rows k m infinite a R = map (filled_row k m infinite a) R

-- the rows in place of the master row a, whose symbol y in column k is kept where it is below u, with the infinite point
-- m * t + y: those of E, an array without a row, where y is kept, and else those of A
unfoldable pub fill_one : ℕ → ℕ → ℕ → ℕ → List (List ℕ) → List (List ℕ) → List ℕ → List (List ℕ)
fill_one k m t u A E a =
    let y : ℕ = slice_index a k in
    if nat_lt y u then filled_rows k m ((m * t + y) ∷ []) a E else filled_rows k m [] a A

-- the rows in place of each row of the master M, by A and H, an array without a row, and the rows U on the infinite points
unfoldable pub one_truncated_rows : ℕ → ℕ → ℕ → ℕ → List (List ℕ) → List (List ℕ) → List (List ℕ) → List (List ℕ) → List (List ℕ)
one_truncated_rows k m t u M A H U = flat_map (fill_one k m t u A H) M ++ raised (m * t) U

-- the same, by the arrays A and E
abbrev pub wilson_one_rows : ℕ → ℕ → ℕ → ℕ → List (List ℕ) → List (List ℕ) → List (List ℕ) → List (List ℕ) → List (List ℕ)
wilson_one_rows k m t u M A E U = one_truncated_rows k m t u M A (holed k m E) U

-- from a master with k + 1 groups of t points, and designs with k groups of m, m + 1 and u points
abbrev pub wilson_one_blocks : ℕ → ℕ → ℕ → ℕ → List (List ℕ) → List (List ℕ) → List (List ℕ) → List (List ℕ) → List (List ℕ)
wilson_one_blocks k m t u master small large rest =
    blocks_of_rows k (m * t + u)
    (wilson_one_rows k m t u (rows_of_blocks t master) (rows_of_blocks m small) (rows_of_blocks (m + 1) large) (rows_of_blocks u rest))

-- the rows in place of the master row a, whose symbol y in column k is kept where it is below u, with the infinite point
-- m * t + y, and whose symbol z in column k + 1 is kept where it is below w, with the infinite point m * t + u + z: those
-- of F, an array without two rows, where both are kept, those of E, an array without a row, where one is, and else those
-- of A
unfoldable pub fill_two : ℕ → ℕ → ℕ → ℕ → ℕ → List (List ℕ) → List (List ℕ) → List (List ℕ) → List ℕ → List (List ℕ)
fill_two k m t u w A E F a =
    let y : ℕ = slice_index a k in
    let z : ℕ = slice_index a (k + 1) in
    if nat_lt y u
    then (if nat_lt z w then filled_rows k m ((m * t + y) ∷ (m * t + u + z) ∷ []) a F else filled_rows k m ((m * t + y) ∷ []) a E)
    else (if nat_lt z w then filled_rows k m ((m * t + u + z) ∷ []) a E else filled_rows k m [] a A)

-- the rows in place of each row of the master M, by A, by H, an array without a row, and by G, an array without two rows,
-- and the rows U and W on the infinite points of each truncated group
unfoldable pub two_truncated_rows : ℕ → ℕ → ℕ → ℕ → ℕ → List (List ℕ) → List (List ℕ) → List (List ℕ) → List (List ℕ) → List (List ℕ) → List (List ℕ) → List (List ℕ)
two_truncated_rows k m t u w M A H G U W = flat_map (fill_two k m t u w A H G) M ++ (raised (m * t) U ++ raised (m * t + u) W)

-- the same, by the arrays A, E and F
abbrev pub wilson_two_rows : ℕ → ℕ → ℕ → ℕ → ℕ → List (List ℕ) → List (List ℕ) → List (List ℕ) → List (List ℕ) → List (List ℕ) → List (List ℕ) → List (List ℕ)
wilson_two_rows k m t u w M A E F U W = two_truncated_rows k m t u w M A (holed k m E) (holed_twice k m F) U W

-- from a master with k + 2 groups of t points, and designs with k groups of m, m + 1, m + 2, u and w points
abbrev pub wilson_two_blocks : ℕ → ℕ → ℕ → ℕ → ℕ → List (List ℕ) → List (List ℕ) → List (List ℕ) → List (List ℕ) → List (List ℕ) → List (List ℕ) → List (List ℕ)
wilson_two_blocks k m t u w master small large larger first second =
    blocks_of_rows k (m * t + u + w)
    (wilson_two_rows k m t u w (rows_of_blocks t master) (rows_of_blocks m small) (rows_of_blocks (m + 1) large) (rows_of_blocks (m + 2) larger)
    (rows_of_blocks u first) (rows_of_blocks w second))
