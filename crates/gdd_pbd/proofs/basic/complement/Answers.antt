use Rattle.std.proofs.Common.{rules}
use Rattle.gdd_pbd.proofs.BasicNeeds.{complement_design}
use Rattle.gdd_pbd.proofs.basic.complement.Goals as goal

pub returns-clause-design : goal.returns-clause-design
returns-clause-design c = complement_design c.args.v c.args.k c.args.l c.args.design.now c.in_ok-blocks.blocks c.requires (search rules)
