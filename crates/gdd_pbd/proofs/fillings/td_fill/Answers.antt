use Rattle.gdd_pbd.proofs.FillingNeeds.{td_fill_blocks, td_fill_design, td_fill_small}
use Rattle.gdd_pbd.proofs.fillings.td_fill.Goals as goal

pub filled-requires : goal.filled-requires
filled-requires c = td_fill_small _ _ _ _ c.requires

pub returns-clause-blocks : goal.returns-clause-blocks
returns-clause-blocks c = td_fill_blocks _ _ _ _ c.requires _ c.in_ok-rows.ensures

pub returns-clause-design : goal.returns-clause-design
returns-clause-design c = td_fill_design _ _ _ _ c.requires _ c.in_ok-rows.ensures
