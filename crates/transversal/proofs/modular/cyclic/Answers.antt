use Rattle.std.proofs.Common.{arith, subst, sym}
use Rattle.design_base.specs.Blocks.{IsTd}
use Rattle.transversal.proofs.Designs.{cyclic_design}
use Rattle.transversal.proofs.Steps.{steps}
use Rattle.transversal.proofs.modular.cyclic.Goals as goal

pub returns-clause-blocks : goal.returns-clause-blocks
returns-clause-blocks c = grind (arith, steps)

pub returns-clause-design : goal.returns-clause-design
returns-clause-design c = subst (λ B. IsTd B c.args.k c.args.n) (sym (returns-clause-blocks c)) (cyclic_design c.args.k c.args.n c.requires)
