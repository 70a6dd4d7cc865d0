use Rattle.gdd_pbd.proofs.TruncatingNeeds.{cut_blocks, cut_design, cut_fits, cut_groups, cut_short, cut_sizes, cut_weight, last_design_fits}
use Rattle.gdd_pbd.proofs.truncations.truncate_pbd.Goals as goal

pub cut-requires : goal.cut-requires
cut-requires c = record {
  weight = cut_weight _ _ _ _ _ _ c.requires;
  groups = cut_groups _ _ _ _ _ _ c.requires;
  short = cut_short _ _ _ _ _ _ c.requires;
  sizes = cut_sizes _ _ _ _ _ _ c.requires;
  fits = cut_fits _ _ _ _ _ _ c.requires;
  last = last_design_fits _ _ _ _ _ _ c.requires;
}

pub returns-clause-blocks : goal.returns-clause-blocks
returns-clause-blocks c = cut_blocks _ _ _ _ _ _ c.requires _ c.in_ok-rows.ensures

pub returns-clause-design : goal.returns-clause-design
returns-clause-design c = cut_design _ _ _ _ _ _ c.requires _ c.in_ok-rows.ensures
