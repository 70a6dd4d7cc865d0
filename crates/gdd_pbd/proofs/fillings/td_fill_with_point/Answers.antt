use Rattle.gdd_pbd.proofs.FillingNeeds.{td_fill_with_point_blocks, td_fill_with_point_design, td_fill_with_point_small}
use Rattle.gdd_pbd.proofs.fillings.td_fill_with_point.Goals as goal

pub filled-requires : goal.filled-requires
filled-requires c = td_fill_with_point_small _ _ _ _ _ c.requires

pub returns-clause-blocks : goal.returns-clause-blocks
returns-clause-blocks c = td_fill_with_point_blocks _ _ _ _ _ c.requires _ c.in_ok-rows.ensures

pub returns-clause-design : goal.returns-clause-design
returns-clause-design c = td_fill_with_point_design _ _ _ _ _ c.requires _ c.in_ok-rows.ensures
