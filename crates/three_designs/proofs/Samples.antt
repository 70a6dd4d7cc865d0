-- Small values of the definitions, computed.
use Rattle.std.proofs.Common.{[], ◌∷◌, ◌≡◌, refl}
use Rattle.counting.specs.Sorting.{insert_by, sort_by}
use Rattle.counting.specs.Sums.{join_below}
use Rattle.design_base.specs.Canonical.{canonical, lex_le}
use Rattle.three_designs.specs.Arrays.{cube_rows, sum_entry}
use Rattle.three_designs.specs.Quadruples.{crossed, double_blocks, doubled, factor, first_point, four_blocks, moved, second_point, sqs_verdict_of}
use Rattle.three_designs.specs.declared.verdict.ThreeRule.TheVariants.{Double}
use Rattle.three_designs.specs.declared.verdict.ThreeVerdict.TheVariants.{Unknown, Yes}

sums_of_two : cube_rows 4 2 (sum_entry 2)
    ≡ (0 ∷ 0 ∷ 0 ∷ 0 ∷ []) ∷ (0 ∷ 0 ∷ 1 ∷ 1 ∷ []) ∷ (0 ∷ 1 ∷ 0 ∷ 1 ∷ []) ∷ (0 ∷ 1 ∷ 1 ∷ 0 ∷ []) ∷ (1 ∷ 0 ∷ 0 ∷ 1 ∷ []) ∷ (1 ∷ 0 ∷ 1 ∷ 0 ∷ []) ∷ (1 ∷ 1 ∷ 0 ∷ 0 ∷ []) ∷ (1 ∷ 1 ∷ 1 ∷ 1 ∷ []) ∷ []
unfolding cube_rows join_below
sums_of_two = refl

eight : canonical (double_blocks 4 four_blocks)
    ≡ (0 ∷ 1 ∷ 2 ∷ 3 ∷ []) ∷ (0 ∷ 1 ∷ 4 ∷ 5 ∷ []) ∷ (0 ∷ 1 ∷ 6 ∷ 7 ∷ []) ∷ (0 ∷ 2 ∷ 4 ∷ 6 ∷ []) ∷ (0 ∷ 2 ∷ 5 ∷ 7 ∷ []) ∷ (0 ∷ 3 ∷ 4 ∷ 7 ∷ []) ∷ (0 ∷ 3 ∷ 5 ∷ 6 ∷ [])
    ∷ (1 ∷ 2 ∷ 4 ∷ 7 ∷ []) ∷ (1 ∷ 2 ∷ 5 ∷ 6 ∷ []) ∷ (1 ∷ 3 ∷ 4 ∷ 6 ∷ []) ∷ (1 ∷ 3 ∷ 5 ∷ 7 ∷ []) ∷ (2 ∷ 3 ∷ 4 ∷ 5 ∷ []) ∷ (2 ∷ 3 ∷ 6 ∷ 7 ∷ []) ∷ (4 ∷ 5 ∷ 6 ∷ 7 ∷ []) ∷ []
unfolding canonical lex_le sort_by insert_by double_blocks doubled crossed moved factor first_point second_point join_below
eight = refl

twenty_points : sqs_verdict_of 20 ≡ Yes Double
unfolding sqs_verdict_of
twenty_points = refl

twenty_eight_points : sqs_verdict_of 28 ≡ Unknown
unfolding sqs_verdict_of
twenty_eight_points = refl
