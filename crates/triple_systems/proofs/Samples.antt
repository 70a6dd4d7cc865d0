-- The block lists of small systems, as they compute.
use Rattle.std.proofs.Common.{[], refl, ◌∷◌, ◌≡◌}
use Rattle.counting.specs.Sorting.{insert_by, sort_by}
use Rattle.counting.specs.Sums.{join_below}
use Rattle.design_base.specs.Arrays.{place}
use Rattle.design_base.specs.Canonical.{canonical, lex_le}
use Rattle.triple_systems.specs.Bose.{bose_blocks}
use Rattle.triple_systems.specs.Double.{double_blocks, double_columns, six_point_blocks}
use Rattle.triple_systems.specs.OneGroup.{middle_blocks, ordered_blocks}
use Rattle.triple_systems.specs.Skolem.{skolem_blocks}
use Rattle.triple_systems.specs.Squares.{half_idempotent, half_sum, halve, idempotent, prolonged}
use Rattle.triple_systems.specs.Triples.{columns, infinite_triples, infinite_triples_of, levels, triples_above, triples_with}

-- the lines of the affine plane of order 3
bose_of_nine :
    canonical (bose_blocks 9)
    ≡ (0 ∷ 1 ∷ 5 ∷ []) ∷ (0 ∷ 2 ∷ 4 ∷ []) ∷ (0 ∷ 3 ∷ 6 ∷ []) ∷ (0 ∷ 7 ∷ 8 ∷ []) ∷ (1 ∷ 2 ∷ 3 ∷ []) ∷ (1 ∷ 4 ∷ 7 ∷ [])
    ∷ (1 ∷ 6 ∷ 8 ∷ []) ∷ (2 ∷ 5 ∷ 8 ∷ []) ∷ (2 ∷ 6 ∷ 7 ∷ []) ∷ (3 ∷ 4 ∷ 8 ∷ []) ∷ (3 ∷ 5 ∷ 7 ∷ []) ∷ (4 ∷ 5 ∷ 6 ∷ [])
    ∷ []
unfolding canonical lex_le sort_by insert_by join_below place bose_blocks half_sum columns levels triples_above triples_with
bose_of_nine = refl

-- the lines of the projective plane of order 2
skolem_of_seven :
    canonical (skolem_blocks 7)
    ≡ (0 ∷ 1 ∷ 3 ∷ []) ∷ (0 ∷ 2 ∷ 4 ∷ []) ∷ (0 ∷ 5 ∷ 6 ∷ []) ∷ (1 ∷ 2 ∷ 6 ∷ []) ∷ (1 ∷ 4 ∷ 5 ∷ []) ∷ (2 ∷ 3 ∷ 5 ∷ [])
    ∷ (3 ∷ 4 ∷ 6 ∷ []) ∷ []
unfolding canonical lex_le sort_by insert_by join_below place skolem_blocks half_idempotent halve columns infinite_triples infinite_triples_of levels triples_above triples_with
skolem_of_seven = refl

-- the list of six points
double_of_six :
    canonical (double_blocks 6)
    ≡ (0 ∷ 1 ∷ 2 ∷ []) ∷ (0 ∷ 1 ∷ 4 ∷ []) ∷ (0 ∷ 2 ∷ 5 ∷ []) ∷ (0 ∷ 3 ∷ 4 ∷ []) ∷ (0 ∷ 3 ∷ 5 ∷ []) ∷ (1 ∷ 2 ∷ 3 ∷ [])
    ∷ (1 ∷ 3 ∷ 5 ∷ []) ∷ (1 ∷ 4 ∷ 5 ∷ []) ∷ (2 ∷ 3 ∷ 4 ∷ []) ∷ (2 ∷ 4 ∷ 5 ∷ []) ∷ []
unfolding canonical lex_le sort_by insert_by join_below double_blocks six_point_blocks
double_of_six = refl

-- each two of four points in two blocks
double_of_four :
    canonical (double_blocks 4)
    ≡ (0 ∷ 1 ∷ 2 ∷ []) ∷ (0 ∷ 1 ∷ 3 ∷ []) ∷ (0 ∷ 2 ∷ 3 ∷ []) ∷ (1 ∷ 2 ∷ 3 ∷ []) ∷ []
unfolding canonical lex_le sort_by insert_by join_below place double_blocks double_columns columns infinite_triples infinite_triples_of levels triples_above triples_with idempotent half_sum
double_of_four = refl

-- each two of five points in three blocks
middle_of_five :
    canonical (middle_blocks 5)
    ≡ (0 ∷ 1 ∷ 2 ∷ []) ∷ (0 ∷ 1 ∷ 3 ∷ []) ∷ (0 ∷ 1 ∷ 4 ∷ []) ∷ (0 ∷ 2 ∷ 3 ∷ []) ∷ (0 ∷ 2 ∷ 4 ∷ []) ∷ (0 ∷ 3 ∷ 4 ∷ [])
    ∷ (1 ∷ 2 ∷ 3 ∷ []) ∷ (1 ∷ 2 ∷ 4 ∷ []) ∷ (1 ∷ 3 ∷ 4 ∷ []) ∷ (2 ∷ 3 ∷ 4 ∷ []) ∷ []
unfolding canonical lex_le sort_by insert_by join_below place middle_blocks half_sum triples_above triples_with
middle_of_five = refl

-- each two of four points in six blocks
ordered_of_four :
    canonical (ordered_blocks 4)
    ≡ (0 ∷ 1 ∷ 2 ∷ []) ∷ (0 ∷ 1 ∷ 2 ∷ []) ∷ (0 ∷ 1 ∷ 2 ∷ []) ∷ (0 ∷ 1 ∷ 3 ∷ []) ∷ (0 ∷ 1 ∷ 3 ∷ []) ∷ (0 ∷ 1 ∷ 3 ∷ [])
    ∷ (0 ∷ 2 ∷ 3 ∷ []) ∷ (0 ∷ 2 ∷ 3 ∷ []) ∷ (0 ∷ 2 ∷ 3 ∷ []) ∷ (1 ∷ 2 ∷ 3 ∷ []) ∷ (1 ∷ 2 ∷ 3 ∷ []) ∷ (1 ∷ 2 ∷ 3 ∷ [])
    ∷ []
unfolding canonical lex_le sort_by insert_by join_below place ordered_blocks triples_above triples_with idempotent prolonged half_sum
ordered_of_four = refl

-- the square of order 4: half sums of order 3, whose entries at x and x + 1 stand in the last row and column
moved_entry : idempotent 4 2 0 ≡ 3
unfolding idempotent prolonged half_sum
moved_entry = refl

last_column : idempotent 4 0 3 ≡ 2
unfolding idempotent prolonged half_sum
last_column = refl

last_row : idempotent 4 3 0 ≡ 1
unfolding idempotent prolonged half_sum
last_row = refl

-- in Skolem's square of order 6, 2 and 3 give 2 + 3
odd_sum : half_idempotent 3 2 3 ≡ 5
unfolding half_idempotent halve
odd_sum = refl
