-- Transversal designs by construction, as in the Handbook of Combinatorial Designs (Colbourn, Dinitz): their rows, and the
-- blocks that the rows stand for.
use Rattle.std.specs.Prelude.{ℕ, ◌+◌, ◌-◌, ◌*◌, ◌%◌, nat_lt, List, [], ◌∷◌, ◌++◌, map, flat_map, take, slice_index, if◌then◌else◌}
use Rattle.counting.specs.Sums.{join_below, list_below}
use Rattle.design_base.specs.Arrays.{blocks_of_rows, rows_of_blocks}
use Rattle.design_base.specs.Fields.{field_sum, field_product}

-- the rows f x y for x below m and y below n
unfoldable pub rows_below : ℕ → ℕ → (ℕ → ℕ → List ℕ) → List (List ℕ)
rows_below m n f = join_below m (λ x. list_below n (λ y. f x y))

-- the row of zeros alone
unfoldable pub one_rows : ℕ → List (List ℕ)
one_rows k = list_below k (λ j. 0) ∷ []

abbrev pub one_blocks : ℕ → List (List ℕ)
one_blocks k = blocks_of_rows k 1 (one_rows k)

-- x, y and x + y modulo n, cut to k columns
unfoldable pub cyclic_row : ℕ → ℕ → ℕ → ℕ → List ℕ
cyclic_row k n x y = take k (x ∷ y ∷ (x + y) % n ∷ [])

unfoldable pub cyclic_rows : ℕ → ℕ → List (List ℕ)
cyclic_rows k n = rows_below n n (cyclic_row k n)

abbrev pub cyclic_blocks : ℕ → ℕ → List (List ℕ)
cyclic_blocks k n = blocks_of_rows k n (cyclic_rows k n)

-- x, and y + j * x for each j below k - 1, in the field of q elements
unfoldable pub field_row : ℕ → ℕ → ℕ → ℕ → List ℕ
field_row k q x y = x ∷ list_below (k - 1) (λ j. field_sum q y (field_product q j x))

unfoldable pub field_rows : ℕ → ℕ → List (List ℕ)
field_rows k q = rows_below q q (field_row k q)

abbrev pub field_blocks : ℕ → ℕ → List (List ℕ)
field_blocks k q = blocks_of_rows k q (field_rows k q)

-- the product of two rows: the entries r_j * b + s_j
unfoldable pub product_row : ℕ → ℕ → List ℕ → List ℕ → List ℕ
product_row k b r s = list_below k (λ j. slice_index r j * b + slice_index s j)

-- the product of r and each row of S
unfoldable pub products_of : ℕ → ℕ → List (List ℕ) → List ℕ → List (List ℕ)
products_of k b S r = map (product_row k b r) S

-- the product of each row of R and each row of S
unfoldable pub product_rows : ℕ → ℕ → List (List ℕ) → List (List ℕ) → List (List ℕ)
product_rows k b R S = flat_map (products_of k b S) R

-- the product of a design of groups of a points and one of groups of b points
abbrev pub product_blocks : ℕ → ℕ → ℕ → List (List ℕ) → List (List ℕ) → List (List ℕ)
product_blocks k a b first second = blocks_of_rows k (a * b) (product_rows k b (rows_of_blocks a first) (rows_of_blocks b second))

-- ---- Parker's rows: four columns and 3 * m + 1 symbols, the integers modulo 2 * m + 1 and the infinite symbols 2 * m + i
-- for i from 1 to m

-- the rows of 0, i, -i and the infinite symbol of i
unfoldable pub quadruple : ℕ → ℕ → List (List ℕ)
quadruple m i =
    let minus : ℕ = 2 * m + 1 - i in
    let infinite : ℕ = 2 * m + i in
    (0 ∷ i ∷ minus ∷ infinite ∷ [])
    ∷ (i ∷ 0 ∷ infinite ∷ minus ∷ [])
    ∷ (minus ∷ infinite ∷ 0 ∷ i ∷ [])
    ∷ (infinite ∷ minus ∷ i ∷ 0 ∷ [])
    ∷ []

-- the row of zeros, and the rows of each i from 1 to h
unfoldable pub base_rows : ℕ → ℕ → List (List ℕ)
base_rows m h = (0 ∷ 0 ∷ 0 ∷ 0 ∷ []) ∷ join_below h (λ i. quadruple m (i + 1))

-- the translate of a symbol: x plus c modulo n, where x is below n; other symbols stay
unfoldable pub translated : ℕ → ℕ → ℕ → ℕ
translated n c x = if nat_lt x n then (x + c) % n else x

-- the translate of rows by c
unfoldable pub translate : ℕ → ℕ → List (List ℕ) → List (List ℕ)
translate n c R = map (map (translated n c)) R

-- the translates of R by each c below h
unfoldable pub translates_below : ℕ → ℕ → List (List ℕ) → List (List ℕ)
translates_below n h R = join_below h (λ c. translate n c R)

-- c added to each symbol
unfoldable pub raised : ℕ → List (List ℕ) → List (List ℕ)
raised c R = map (map (λ x. c + x)) R

unfoldable pub parker_rows : ℕ → List (List ℕ) → List (List ℕ)
parker_rows m R = translates_below (2 * m + 1) (2 * m + 1) (base_rows m m) ++ raised (2 * m + 1) R

abbrev pub parker_blocks : ℕ → List (List ℕ) → List (List ℕ)
parker_blocks m inner = blocks_of_rows 4 (3 * m + 1) (parker_rows m (rows_of_blocks m inner))
