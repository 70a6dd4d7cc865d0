use Rattle.std.proofs.Common.{rules}
use Rattle.gdd_pbd.proofs.BasicNeeds.{whole_design}
use Rattle.gdd_pbd.proofs.basic.whole.Goals as goal

pub returns-clause-design : goal.returns-clause-design
returns-clause-design c = whole_design c.args.v c.args.l c.in_ok-blocks.blocks (search rules)
