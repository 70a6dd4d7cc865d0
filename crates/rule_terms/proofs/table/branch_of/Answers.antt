use Rattle.std.proofs.Common.{ap, sym, ◌∙◌}
use Rattle.design_base.specs.Limits.{in_bounds}
use Rattle.rule_terms.proofs.Bounds.{gdd_bounds}
use Rattle.rule_terms.proofs.table.branch_of.Goals as goal

pub gdd_branch-requires-clause-group : goal.gdd_branch-requires-clause-group
gdd_branch-requires-clause-group c = (gdd_bounds _ _ _ (sym (ap in_bounds c.in-Gdd.is) ∙ c.requires.bounds)).small

pub gdd_branch-requires-clause-groups : goal.gdd_branch-requires-clause-groups
gdd_branch-requires-clause-groups c = (gdd_bounds _ _ _ (sym (ap in_bounds c.in-Gdd.is) ∙ c.requires.bounds)).few
