-- The stated lists on small orders, computed.
use Rattle.std.proofs.Common.{List, None, Some, [], length, refl, take, ℕ, ◌∷◌, ◌≡◌}
use Rattle.counting.specs.Sorting.{insert_by, sort_by}
use Rattle.counting.specs.Sums.{join_below, one, sum_below}
use Rattle.design_base.specs.Arrays.{blocks_of_rows, place, row_block, rows_of_blocks}
use Rattle.design_base.specs.Blocks.{holds}
use Rattle.design_base.specs.Canonical.{canonical, lex_le}
use Rattle.transversal.specs.Constructions.{raised}
use Rattle.wilson.specs.Disjoint.{are_disjoint, disjoint_from_first}
use Rattle.wilson.specs.Holes.{agreements, first_apart, holed, holed_twice, renumbered, renumbered_row, renumbered_row_twice, renumbered_twice}
use Rattle.wilson.specs.Truncations.{fill_one, fill_two, filled, filled_row, filled_rows, one_truncated_rows, two_truncated_rows, wilson_one_blocks, wilson_two_blocks}

-- designs of one, two, three and four points in a group
abbrev of_one : List (List ℕ)
of_one = (0 ∷ 1 ∷ 2 ∷ []) ∷ []

abbrev of_two : List (List ℕ)
of_two = (0 ∷ 2 ∷ 4 ∷ []) ∷ (0 ∷ 3 ∷ 5 ∷ []) ∷ (1 ∷ 2 ∷ 5 ∷ []) ∷ (1 ∷ 3 ∷ 4 ∷ []) ∷ []

abbrev of_three : List (List ℕ)
of_three = (0 ∷ 3 ∷ 6 ∷ []) ∷ (0 ∷ 4 ∷ 7 ∷ []) ∷ (0 ∷ 5 ∷ 8 ∷ []) ∷ (1 ∷ 3 ∷ 7 ∷ []) ∷ (1 ∷ 4 ∷ 8 ∷ []) ∷ (1 ∷ 5 ∷ 6 ∷ []) ∷ (2 ∷ 3 ∷ 8 ∷ []) ∷ (2 ∷ 4 ∷ 6 ∷ []) ∷ (2 ∷ 5 ∷ 7 ∷ []) ∷ []

abbrev of_four : List (List ℕ)
of_four = (0 ∷ 4 ∷ 8 ∷ []) ∷ (0 ∷ 5 ∷ 9 ∷ []) ∷ (0 ∷ 6 ∷ 10 ∷ []) ∷ (0 ∷ 7 ∷ 11 ∷ []) ∷ (1 ∷ 4 ∷ 9 ∷ []) ∷ (1 ∷ 5 ∷ 8 ∷ []) ∷ (1 ∷ 6 ∷ 11 ∷ []) ∷ (1 ∷ 7 ∷ 10 ∷ []) ∷ (2 ∷ 4 ∷ 10 ∷ []) ∷ (2 ∷ 5 ∷ 11 ∷ []) ∷ (2 ∷ 6 ∷ 8 ∷ []) ∷ (2 ∷ 7 ∷ 9 ∷ []) ∷ (3 ∷ 4 ∷ 11 ∷ []) ∷ (3 ∷ 5 ∷ 10 ∷ []) ∷ (3 ∷ 6 ∷ 9 ∷ []) ∷ (3 ∷ 7 ∷ 8 ∷ []) ∷ []

no_disjoint_block : disjoint_from_first of_two ≡ None
unfolding disjoint_from_first are_disjoint holds
no_disjoint_block = refl

disjoint_block : disjoint_from_first of_four ≡ Some 6
unfolding disjoint_from_first are_disjoint holds
disjoint_block = refl

without_a_row : holed 3 2 (rows_of_blocks 3 of_three) ≡ (2 ∷ 0 ∷ 0 ∷ []) ∷ (2 ∷ 1 ∷ 1 ∷ []) ∷ (0 ∷ 2 ∷ 0 ∷ []) ∷ (0 ∷ 0 ∷ 1 ∷ []) ∷ (0 ∷ 1 ∷ 2 ∷ []) ∷ (1 ∷ 2 ∷ 1 ∷ []) ∷ (1 ∷ 0 ∷ 2 ∷ []) ∷ (1 ∷ 1 ∷ 0 ∷ []) ∷ []
unfolding holed renumbered_row renumbered rows_of_blocks join_below one
without_a_row = refl

without_two_rows : holed_twice 3 2 (rows_of_blocks 4 of_four) ≡ (2 ∷ 0 ∷ 0 ∷ []) ∷ (2 ∷ 3 ∷ 1 ∷ []) ∷ (2 ∷ 1 ∷ 3 ∷ []) ∷ (3 ∷ 2 ∷ 0 ∷ []) ∷ (3 ∷ 0 ∷ 2 ∷ []) ∷ (3 ∷ 1 ∷ 1 ∷ []) ∷ (0 ∷ 2 ∷ 1 ∷ []) ∷ (0 ∷ 0 ∷ 3 ∷ []) ∷ (0 ∷ 3 ∷ 2 ∷ []) ∷ (0 ∷ 1 ∷ 0 ∷ []) ∷ (1 ∷ 2 ∷ 3 ∷ []) ∷ (1 ∷ 0 ∷ 1 ∷ []) ∷ (1 ∷ 3 ∷ 0 ∷ []) ∷ (1 ∷ 1 ∷ 2 ∷ []) ∷ []
unfolding holed_twice first_apart agreements renumbered_row_twice renumbered_twice rows_of_blocks join_below sum_below one
without_two_rows = refl

abbrev master_of_three : List (List ℕ)
master_of_three = (0 ∷ 3 ∷ 6 ∷ 9 ∷ []) ∷ (0 ∷ 4 ∷ 7 ∷ 10 ∷ []) ∷ (0 ∷ 5 ∷ 8 ∷ 11 ∷ []) ∷ (1 ∷ 3 ∷ 7 ∷ 11 ∷ []) ∷ (1 ∷ 4 ∷ 8 ∷ 9 ∷ []) ∷ (1 ∷ 5 ∷ 6 ∷ 10 ∷ []) ∷ (2 ∷ 3 ∷ 8 ∷ 10 ∷ []) ∷ (2 ∷ 4 ∷ 6 ∷ 11 ∷ []) ∷ (2 ∷ 5 ∷ 7 ∷ 9 ∷ []) ∷ []

seven_points : canonical (wilson_one_blocks 3 2 3 1 master_of_three of_two of_three of_one) ≡ (0 ∷ 7 ∷ 15 ∷ []) ∷ (0 ∷ 8 ∷ 20 ∷ []) ∷ (0 ∷ 9 ∷ 16 ∷ []) ∷ (0 ∷ 10 ∷ 17 ∷ []) ∷ (0 ∷ 11 ∷ 18 ∷ []) ∷ (0 ∷ 12 ∷ 19 ∷ []) ∷ (0 ∷ 13 ∷ 14 ∷ []) ∷ (1 ∷ 7 ∷ 20 ∷ []) ∷ (1 ∷ 8 ∷ 14 ∷ []) ∷ (1 ∷ 9 ∷ 17 ∷ []) ∷ (1 ∷ 10 ∷ 16 ∷ []) ∷ (1 ∷ 11 ∷ 19 ∷ []) ∷ (1 ∷ 12 ∷ 18 ∷ []) ∷ (1 ∷ 13 ∷ 15 ∷ []) ∷ (2 ∷ 7 ∷ 16 ∷ []) ∷ (2 ∷ 8 ∷ 17 ∷ []) ∷ (2 ∷ 9 ∷ 19 ∷ []) ∷ (2 ∷ 10 ∷ 20 ∷ []) ∷ (2 ∷ 11 ∷ 14 ∷ []) ∷ (2 ∷ 12 ∷ 15 ∷ []) ∷ (2 ∷ 13 ∷ 18 ∷ []) ∷ (3 ∷ 7 ∷ 17 ∷ []) ∷ (3 ∷ 8 ∷ 16 ∷ []) ∷ (3 ∷ 9 ∷ 20 ∷ []) ∷ (3 ∷ 10 ∷ 18 ∷ []) ∷ (3 ∷ 11 ∷ 15 ∷ []) ∷ (3 ∷ 12 ∷ 14 ∷ []) ∷ (3 ∷ 13 ∷ 19 ∷ []) ∷ (4 ∷ 7 ∷ 18 ∷ []) ∷ (4 ∷ 8 ∷ 19 ∷ []) ∷ (4 ∷ 9 ∷ 14 ∷ []) ∷ (4 ∷ 10 ∷ 15 ∷ []) ∷ (4 ∷ 11 ∷ 17 ∷ []) ∷ (4 ∷ 12 ∷ 20 ∷ []) ∷ (4 ∷ 13 ∷ 16 ∷ []) ∷ (5 ∷ 7 ∷ 19 ∷ []) ∷ (5 ∷ 8 ∷ 18 ∷ []) ∷ (5 ∷ 9 ∷ 15 ∷ []) ∷ (5 ∷ 10 ∷ 14 ∷ []) ∷ (5 ∷ 11 ∷ 20 ∷ []) ∷ (5 ∷ 12 ∷ 16 ∷ []) ∷ (5 ∷ 13 ∷ 17 ∷ []) ∷ (6 ∷ 7 ∷ 14 ∷ []) ∷ (6 ∷ 8 ∷ 15 ∷ []) ∷ (6 ∷ 9 ∷ 18 ∷ []) ∷ (6 ∷ 10 ∷ 19 ∷ []) ∷ (6 ∷ 11 ∷ 16 ∷ []) ∷ (6 ∷ 12 ∷ 17 ∷ []) ∷ (6 ∷ 13 ∷ 20 ∷ []) ∷ []
unfolding canonical sort_by insert_by lex_le blocks_of_rows rows_of_blocks row_block place join_below one raised holed renumbered_row renumbered filled filled_row filled_rows fill_one one_truncated_rows
seven_points = refl

abbrev master_of_four : List (List ℕ)
master_of_four = (0 ∷ 4 ∷ 8 ∷ 12 ∷ 16 ∷ []) ∷ (0 ∷ 5 ∷ 9 ∷ 13 ∷ 17 ∷ []) ∷ (0 ∷ 6 ∷ 10 ∷ 14 ∷ 18 ∷ []) ∷ (0 ∷ 7 ∷ 11 ∷ 15 ∷ 19 ∷ []) ∷ (1 ∷ 4 ∷ 9 ∷ 14 ∷ 19 ∷ []) ∷ (1 ∷ 5 ∷ 8 ∷ 15 ∷ 18 ∷ []) ∷ (1 ∷ 6 ∷ 11 ∷ 12 ∷ 17 ∷ []) ∷ (1 ∷ 7 ∷ 10 ∷ 13 ∷ 16 ∷ []) ∷ (2 ∷ 4 ∷ 10 ∷ 15 ∷ 17 ∷ []) ∷ (2 ∷ 5 ∷ 11 ∷ 14 ∷ 16 ∷ []) ∷ (2 ∷ 6 ∷ 8 ∷ 13 ∷ 19 ∷ []) ∷ (2 ∷ 7 ∷ 9 ∷ 12 ∷ 18 ∷ []) ∷ (3 ∷ 4 ∷ 11 ∷ 13 ∷ 18 ∷ []) ∷ (3 ∷ 5 ∷ 10 ∷ 12 ∷ 19 ∷ []) ∷ (3 ∷ 6 ∷ 9 ∷ 15 ∷ 16 ∷ []) ∷ (3 ∷ 7 ∷ 8 ∷ 14 ∷ 17 ∷ []) ∷ []

-- the first of the hundred blocks
ten_points : take 10 (canonical (wilson_two_blocks 3 2 4 1 1 master_of_four of_two of_three of_four of_one of_one)) ≡ (0 ∷ 10 ∷ 29 ∷ []) ∷ (0 ∷ 11 ∷ 20 ∷ []) ∷ (0 ∷ 12 ∷ 22 ∷ []) ∷ (0 ∷ 13 ∷ 23 ∷ []) ∷ (0 ∷ 14 ∷ 24 ∷ []) ∷ (0 ∷ 15 ∷ 25 ∷ []) ∷ (0 ∷ 16 ∷ 26 ∷ []) ∷ (0 ∷ 17 ∷ 27 ∷ []) ∷ (0 ∷ 18 ∷ 21 ∷ []) ∷ (0 ∷ 19 ∷ 28 ∷ []) ∷ []
unfolding canonical sort_by insert_by lex_le blocks_of_rows rows_of_blocks row_block place join_below sum_below one raised holed renumbered_row renumbered holed_twice first_apart agreements renumbered_row_twice renumbered_twice filled filled_row filled_rows fill_two two_truncated_rows
ten_points = refl

ten_points_count : length (wilson_two_blocks 3 2 4 1 1 master_of_four of_two of_three of_four of_one of_one) ≡ 100
unfolding blocks_of_rows rows_of_blocks row_block place join_below sum_below one raised holed renumbered_row renumbered holed_twice first_apart agreements renumbered_row_twice renumbered_twice filled filled_row filled_rows fill_two two_truncated_rows
ten_points_count = refl
