use Rattle.gdd_pbd.proofs.DeletingNeeds.{drop_design, drop_short, drop_size}
use Rattle.gdd_pbd.proofs.deletions.drop_point.Goals as goal

pub below-requires : goal.below-requires
below-requires c = record { few = drop_short _ _ _ c.requires; size = drop_size _ _ _ c.requires }

pub returns-clause-design : goal.returns-clause-design
returns-clause-design c = drop_design _ _ _ c.requires _ c.in_ok-rows.ensures
