use Rattle.std.proofs.Common.{arith, subst, sym}
use Rattle.design_base.specs.Blocks.{IsTd}
use Rattle.transversal.proofs.Designs.{field_design}
use Rattle.transversal.proofs.Steps.{steps}
use Rattle.transversal.proofs.lines.field_td.Goals as goal

pub returns-clause-blocks : goal.returns-clause-blocks
returns-clause-blocks c = grind (arith, steps)

pub returns-clause-design : goal.returns-clause-design
returns-clause-design c = subst (λ B. IsTd B c.args.k c.args.field.now) (sym (returns-clause-blocks c)) (field_design c.args.k c.args.field.now c.requires)
