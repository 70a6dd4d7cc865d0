-- Small block lists, as they compute.
use Rattle.std.proofs.Common.{List, Some, [], refl, ◌∷◌, ◌≡◌, ℕ}
use Rattle.counting.specs.Sorting.{insert_by, sort_by}
use Rattle.counting.specs.Sums.{join_below}
use Rattle.design_base.specs.Arrays.{place}
use Rattle.design_base.specs.Blocks.{holds}
use Rattle.design_base.specs.Canonical.{canonical, lex_le}
use Rattle.gdd_pbd.specs.Basic.{all_but_one, complement, kept, missing, omit_blocks, omitted, pair_blocks, pairs_once, pairs_with, whole_blocks}
use Rattle.gdd_pbd.specs.Deleting.{below_point, delete_last, groups_at, place_in, renamed_rest}
use Rattle.gdd_pbd.specs.Filling.{fill, fill_with_point, place_by, rename, with_point}
use Rattle.gdd_pbd.specs.FromPbd.{from_pbd}
use Rattle.gdd_pbd.specs.Truncating.{truncated}
use Rattle.gdd_pbd.specs.Weighting.{chosen, weight, weighted}

whole_of_three : whole_blocks 3 2 ≡ (0 ∷ 1 ∷ 2 ∷ []) ∷ (0 ∷ 1 ∷ 2 ∷ []) ∷ []
unfolding whole_blocks join_below
whole_of_three = refl

pairs_of_three : pair_blocks 3 1 ≡ (0 ∷ 1 ∷ []) ∷ (0 ∷ 2 ∷ []) ∷ (1 ∷ 2 ∷ []) ∷ []
unfolding pair_blocks pairs_once pairs_with join_below
pairs_of_three = refl

omit_of_four : omit_blocks 4 2 ≡ (1 ∷ 2 ∷ 3 ∷ []) ∷ (0 ∷ 2 ∷ 3 ∷ []) ∷ (0 ∷ 1 ∷ 3 ∷ []) ∷ (0 ∷ 1 ∷ 2 ∷ []) ∷ []
unfolding omitted all_but_one kept join_below
omit_of_four = refl

filled : fill 2 3 [] ((0 ∷ 1 ∷ []) ∷ []) ≡ (0 ∷ 1 ∷ []) ∷ (2 ∷ 3 ∷ []) ∷ (4 ∷ 5 ∷ []) ∷ []
unfolding fill rename place join_below
filled = refl

filled_with_point : fill_with_point 2 3 [] ((0 ∷ 1 ∷ 2 ∷ []) ∷ []) ≡ (0 ∷ 1 ∷ 6 ∷ []) ∷ (2 ∷ 3 ∷ 6 ∷ []) ∷ (4 ∷ 5 ∷ 6 ∷ []) ∷ []
unfolding fill_with_point with_point rename place join_below
filled_with_point = refl

-- the lines of the projective plane of order 2
abbrev seven : List (List ℕ)
seven = (0 ∷ 1 ∷ 3 ∷ []) ∷ (0 ∷ 2 ∷ 4 ∷ []) ∷ (0 ∷ 5 ∷ 6 ∷ []) ∷ (1 ∷ 2 ∷ 6 ∷ []) ∷ (1 ∷ 4 ∷ 5 ∷ []) ∷ (2 ∷ 3 ∷ 5 ∷ []) ∷ (3 ∷ 4 ∷ 6 ∷ []) ∷ []

complements_of_seven :
    canonical (complement 7 seven)
    ≡ (0 ∷ 1 ∷ 2 ∷ 5 ∷ []) ∷ (0 ∷ 1 ∷ 4 ∷ 6 ∷ []) ∷ (0 ∷ 2 ∷ 3 ∷ 6 ∷ []) ∷ (0 ∷ 3 ∷ 4 ∷ 5 ∷ []) ∷ (1 ∷ 2 ∷ 3 ∷ 4 ∷ []) ∷ (1 ∷ 3 ∷ 5 ∷ 6 ∷ [])
    ∷ (2 ∷ 4 ∷ 5 ∷ 6 ∷ []) ∷ []
unfolding canonical lex_le sort_by insert_by join_below complement missing kept holds
complements_of_seven = refl

seven_without_a_point :
    canonical (below_point 6 seven)
    ≡ (0 ∷ 1 ∷ 3 ∷ []) ∷ (0 ∷ 2 ∷ 4 ∷ []) ∷ (0 ∷ 5 ∷ []) ∷ (1 ∷ 2 ∷ []) ∷ (1 ∷ 4 ∷ 5 ∷ []) ∷ (2 ∷ 3 ∷ 5 ∷ [])
    ∷ (3 ∷ 4 ∷ []) ∷ []
unfolding canonical lex_le sort_by insert_by below_point
seven_without_a_point = refl

-- the blocks through the last point are the groups
seven_over_groups :
    canonical (delete_last 2 3 seven)
    ≡ (0 ∷ 2 ∷ 4 ∷ []) ∷ (0 ∷ 3 ∷ 5 ∷ []) ∷ (1 ∷ 2 ∷ 5 ∷ []) ∷ (1 ∷ 3 ∷ 4 ∷ []) ∷ []
unfolding canonical lex_le sort_by insert_by holds groups_at below_point place_in place renamed_rest rename
seven_over_groups = refl

-- the two groups of the ingredient become the groups of the points 0 and 2
one_block_weighted :
    canonical (weight 2 ((0 ∷ 2 ∷ []) ∷ []) ((0 ∷ 2 ∷ []) ∷ (0 ∷ 3 ∷ []) ∷ (1 ∷ 2 ∷ []) ∷ (1 ∷ 3 ∷ []) ∷ []))
    ≡ (0 ∷ 4 ∷ []) ∷ (0 ∷ 5 ∷ []) ∷ (1 ∷ 4 ∷ []) ∷ (1 ∷ 5 ∷ []) ∷ []
unfolding canonical lex_le sort_by insert_by weight weighted rename place_by place
one_block_weighted = refl

two_points_in_each_group :
    canonical (truncated 2 2 2 ((0 ∷ 2 ∷ 4 ∷ []) ∷ (0 ∷ 3 ∷ 5 ∷ []) ∷ (1 ∷ 2 ∷ 5 ∷ []) ∷ (1 ∷ 3 ∷ 4 ∷ []) ∷ []) ((0 ∷ 1 ∷ []) ∷ []) (Some ((0 ∷ 1 ∷ []) ∷ [])))
    ≡ (0 ∷ 1 ∷ []) ∷ (0 ∷ 2 ∷ 4 ∷ []) ∷ (0 ∷ 3 ∷ 5 ∷ []) ∷ (1 ∷ 2 ∷ 5 ∷ []) ∷ (1 ∷ 3 ∷ 4 ∷ []) ∷ (2 ∷ 3 ∷ [])
    ∷ (4 ∷ 5 ∷ []) ∷ []
unfolding canonical lex_le sort_by insert_by join_below truncated below_point rename place
two_points_in_each_group = refl

-- a block of three points, each of which becomes two
seven_from_three :
    canonical (from_pbd 2 3 3 ((0 ∷ 1 ∷ 2 ∷ []) ∷ []) seven [])
    ≡ (0 ∷ 1 ∷ 6 ∷ []) ∷ (0 ∷ 2 ∷ 4 ∷ []) ∷ (0 ∷ 3 ∷ 5 ∷ []) ∷ (1 ∷ 2 ∷ 5 ∷ []) ∷ (1 ∷ 3 ∷ 4 ∷ []) ∷ (2 ∷ 3 ∷ 6 ∷ [])
    ∷ (4 ∷ 5 ∷ 6 ∷ []) ∷ []
unfolding from_pbd chosen weighted whole_blocks fill_with_point with_point canonical lex_le sort_by insert_by join_below holds groups_at below_point place_in place_by place renamed_rest rename
seven_from_three = refl
