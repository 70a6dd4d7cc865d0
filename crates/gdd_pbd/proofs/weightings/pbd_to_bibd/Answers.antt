use Rattle.gdd_pbd.proofs.FromPbdNeeds.{extend_blocks, extend_count, extend_design, extend_groups, extend_points, extend_replace, extend_sizes, first_can, second_can}
use Rattle.gdd_pbd.proofs.weightings.pbd_to_bibd.Goals as goal

pub without_last-requires : goal.without_last-requires
without_last-requires c = first_can _ _ _ _ _ _ c.requires

pub without_last-requires-2 : goal.without_last-requires-2
without_last-requires-2 c = second_can _ _ _ _ _ _ c.requires

pub extended-requires : goal.extended-requires
extended-requires c = record {
  weight = extend_points _ _ _ _ _ _ c.requires;
  replace = extend_replace _ _ _ _ _ _ c.requires _ _ c.in_ok-first.ensures.design c.in_ok-second.ensures.design;
  sizes = extend_sizes _ _ _ _ _ _ c.requires _ _ c.in_ok-first.ensures.design c.in_ok-second.ensures.design;
  count = extend_count _ _ _ _ _ _ c.requires;
  groups = extend_groups _ _ _ _ _ _ c.requires;
}

pub returns-clause-blocks : goal.returns-clause-blocks
returns-clause-blocks c = extend_blocks _ _ _ _ _ _ c.requires _ _ _ c.in_ok-first.ensures.blocks c.in_ok-second.ensures.blocks c.in_ok-rows.ensures

pub returns-clause-design : goal.returns-clause-design
returns-clause-design c = extend_design _ _ _ _ _ _ c.requires _ _ _ c.in_ok-first.ensures.blocks c.in_ok-second.ensures.blocks c.in_ok-rows.ensures
