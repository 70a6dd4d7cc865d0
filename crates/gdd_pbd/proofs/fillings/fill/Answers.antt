use Rattle.gdd_pbd.proofs.FillingNeeds.{fill_blocks, fill_design, fill_small}
use Rattle.gdd_pbd.proofs.fillings.fill.Goals as goal

pub filled-requires : goal.filled-requires
filled-requires c = fill_small _ _ _ _ _ c.requires

pub returns-clause-blocks : goal.returns-clause-blocks
returns-clause-blocks c = fill_blocks _ _ _ _ _ c.requires _ c.in_ok-rows.ensures

pub returns-clause-design : goal.returns-clause-design
returns-clause-design c = fill_design _ _ _ _ _ c.requires _ c.in_ok-rows.ensures
