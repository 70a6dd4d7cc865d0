use Rattle.std.proofs.Common.{ap, subst, sym, ◌∙◌}
use Rattle.design_base.specs.Canonical.{canonical}
use Rattle.design_base.specs.Meets.{Meets}
use Rattle.difference_sets.proofs.Buildable.{family_design}
use Rattle.difference_sets.proofs.families.family.Goals as goal

pub returns-clause-design : goal.returns-clause-design
returns-clause-design c = subst (Meets c.args.q.now) (sym (c.in_ok-rows.ensures ∙ ap canonical c.in_ok-base_blocks_of_step.ensures)) (family_design c.args.q.now c.args.step.now c.requires)
