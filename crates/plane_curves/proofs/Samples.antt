-- Small values of the definitions, computed. The values were counted by another program.
use Rattle.std.proofs.Common.{[], ◌∷◌, refl, ◌≡◌}
use Rattle.counting.specs.Search.{each_passes, first_in}
use Rattle.counting.specs.Sorting.{insert_by, sort_by}
use Rattle.counting.specs.Sums.{join_below}
use Rattle.design_base.specs.Blocks.{holds}
use Rattle.design_base.specs.Canonical.{canonical, lex_le}
use Rattle.design_base.specs.Fields.{field_product, field_sum, moduli, modulus_of}
use Rattle.field_tables.specs.Powers.{power}
use Rattle.spaces.specs.Lines.{each_once, points_in, projective_lines, projective_lines_over, subspace}
use Rattle.spaces.specs.Points.{lead, points, points_below}
use Rattle.spaces.specs.Vectors.{combination}
use Rattle.plane_curves.specs.Curves.{arc_blocks, form_blocks, is_on_arc, is_power_zero, is_rootless, least_rootless, quadratic, unital_blocks}
use Rattle.plane_curves.specs.Traces.{points_on, trace}

unital_2 : canonical (unital_blocks 2) ≡
    (0 ∷ 1 ∷ 2 ∷ []) ∷ (0 ∷ 3 ∷ 4 ∷ []) ∷ (0 ∷ 5 ∷ 6 ∷ []) ∷ (0 ∷ 7 ∷ 8 ∷ []) ∷ (1 ∷ 3 ∷ 8 ∷ []) ∷ (1 ∷ 4 ∷ 5 ∷ []) ∷ (1 ∷ 6 ∷ 7 ∷ []) ∷ (2 ∷ 3 ∷ 6 ∷ []) ∷ (2 ∷ 4 ∷ 7 ∷ []) ∷ (2 ∷ 5 ∷ 8 ∷ []) ∷ (3 ∷ 5 ∷ 7 ∷ []) ∷ (4 ∷ 6 ∷ 8 ∷ []) ∷ []
unfolding unital_blocks canonical sort_by insert_by lex_le trace points_on is_power_zero power points points_below lead projective_lines projective_lines_over each_once points_in subspace combination holds join_below field_sum field_product modulus_of moduli first_in
unital_2 = refl

arc_2 : canonical (arc_blocks 1 2) ≡
    (0 ∷ 1 ∷ []) ∷ (0 ∷ 2 ∷ []) ∷ (0 ∷ 3 ∷ []) ∷ (0 ∷ 4 ∷ []) ∷ (0 ∷ 5 ∷ []) ∷ (1 ∷ 2 ∷ []) ∷ (1 ∷ 3 ∷ []) ∷ (1 ∷ 4 ∷ []) ∷ (1 ∷ 5 ∷ []) ∷ (2 ∷ 3 ∷ []) ∷ (2 ∷ 4 ∷ []) ∷ (2 ∷ 5 ∷ []) ∷ (3 ∷ 4 ∷ []) ∷ (3 ∷ 5 ∷ []) ∷ (4 ∷ 5 ∷ []) ∷ []
unfolding form_blocks canonical sort_by insert_by lex_le trace points_on is_on_arc quadratic is_rootless least_rootless each_passes points points_below lead projective_lines projective_lines_over each_once points_in subspace combination holds join_below field_sum field_product modulus_of moduli first_in
arc_2 = refl
