use Rattle.std.proofs.Common.{arith, subst, sym}
use Rattle.design_base.specs.Blocks.{IsTd}
use Rattle.transversal.proofs.Designs.{one_design}
use Rattle.transversal.proofs.OneArray.{block_of_zeros}
use Rattle.transversal.proofs.Steps.{steps}
use Rattle.transversal.proofs.modular.one.Goals as goal

pub returns-clause-blocks : goal.returns-clause-blocks
returns-clause-blocks c = grind (arith, steps, block_of_zeros)

pub returns-clause-design : goal.returns-clause-design
returns-clause-design c = subst (λ B. IsTd B c.args.k 1) (sym (returns-clause-blocks c)) (one_design c.args.k c.requires)
