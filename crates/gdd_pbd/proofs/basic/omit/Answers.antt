use Rattle.std.proofs.Common.{rules}
use Rattle.gdd_pbd.proofs.BasicNeeds.{omit_design}
use Rattle.gdd_pbd.proofs.basic.omit.Goals as goal

pub returns-clause-design : goal.returns-clause-design
returns-clause-design c = omit_design c.args.v c.args.l c.in_ok-blocks.blocks c.requires (search rules)
