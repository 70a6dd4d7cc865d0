use Rattle.gdd_pbd.proofs.DeletingNeeds.{delete_design, delete_last_can}
use Rattle.gdd_pbd.proofs.deletions.delete_point.Goals as goal

pub without_last-requires : goal.without_last-requires
without_last-requires c = delete_last_can _ _ _ c.requires

pub returns-clause-design : goal.returns-clause-design
returns-clause-design c = delete_design _ _ _ c.requires _ c.in_ok-rows.ensures.design
