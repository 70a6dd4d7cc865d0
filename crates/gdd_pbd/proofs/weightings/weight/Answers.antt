use Rattle.gdd_pbd.proofs.WeightingNeeds.{weight_blocks, weight_count, weight_design, weight_points, weight_replace, weight_size}
use Rattle.gdd_pbd.proofs.weightings.weight.Goals as goal

pub weighted_by_one-requires : goal.weighted_by_one-requires
weighted_by_one-requires c = record {
  weight = weight_points _ _ _ _ _ _ _ c.requires;
  replace = weight_replace _ _ _ _ _ _ _ c.requires;
  size = weight_size _ _ _ _ _ _ _ c.requires;
  count = weight_count _ _ _ _ _ _ _ c.requires;
}

pub returns-clause-blocks : goal.returns-clause-blocks
returns-clause-blocks c = weight_blocks _ _ _ _ _ _ _ c.requires _ c.in_ok-rows.ensures

pub returns-clause-design : goal.returns-clause-design
returns-clause-design c = weight_design _ _ _ _ _ _ _ c.requires _ c.in_ok-rows.ensures
