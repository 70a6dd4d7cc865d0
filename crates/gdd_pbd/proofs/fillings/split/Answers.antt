use Rattle.gdd_pbd.proofs.FillingNeeds.{split_blocks, split_design, split_small}
use Rattle.gdd_pbd.proofs.fillings.split.Goals as goal

pub filled-requires : goal.filled-requires
filled-requires c = split_small _ _ _ _ _ _ c.requires

pub returns-clause-blocks : goal.returns-clause-blocks
returns-clause-blocks c = split_blocks _ _ _ _ _ _ c.requires _ c.in_ok-rows.ensures

pub returns-clause-design : goal.returns-clause-design
returns-clause-design c = split_design _ _ _ _ _ _ c.requires _ c.in_ok-rows.ensures
