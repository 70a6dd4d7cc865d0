-- Small values of the definitions, computed: the complement of the plane of order 2.
use Rattle.std.proofs.Common.{List, [], refl, ℕ, ◌∷◌, ◌≡◌}
use Rattle.counting.specs.Sorting.{insert_by, sort_by}
use Rattle.counting.specs.Sums.{join_below}
use Rattle.design_base.specs.Blocks.{holds}
use Rattle.design_base.specs.Canonical.{canonical, lex_le}
use Rattle.spaces.specs.Lines.{points_in}
use Rattle.symmetric.specs.Symmetric.{derived_blocks, parts_in, points_outside, residual_blocks}

seven : List (List ℕ)
seven = (0 ∷ 1 ∷ 2 ∷ 5 ∷ []) ∷ (0 ∷ 1 ∷ 4 ∷ 6 ∷ []) ∷ (0 ∷ 2 ∷ 3 ∷ 4 ∷ []) ∷ (0 ∷ 3 ∷ 5 ∷ 6 ∷ []) ∷ (1 ∷ 2 ∷ 3 ∷ 6 ∷ []) ∷ (1 ∷ 3 ∷ 4 ∷ 5 ∷ []) ∷ (2 ∷ 4 ∷ 5 ∷ 6 ∷ []) ∷ []

outside_the_first : canonical (residual_blocks 7 seven 0) ≡ (0 ∷ 1 ∷ []) ∷ (0 ∷ 1 ∷ []) ∷ (0 ∷ 2 ∷ []) ∷ (0 ∷ 2 ∷ []) ∷ (1 ∷ 2 ∷ []) ∷ (1 ∷ 2 ∷ []) ∷ []
unfolding seven canonical lex_le sort_by insert_by parts_in points_in points_outside join_below holds
outside_the_first = refl

inside_the_first : canonical (derived_blocks seven 0) ≡ (0 ∷ 1 ∷ []) ∷ (0 ∷ 2 ∷ []) ∷ (0 ∷ 3 ∷ []) ∷ (1 ∷ 2 ∷ []) ∷ (1 ∷ 3 ∷ []) ∷ (2 ∷ 3 ∷ []) ∷ []
unfolding seven canonical lex_le sort_by insert_by parts_in points_in points_outside join_below holds
inside_the_first = refl
