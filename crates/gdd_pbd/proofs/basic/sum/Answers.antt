use Rattle.std.proofs.Common.{arith, rules}
use Rattle.gdd_pbd.proofs.BasicNeeds.{sum_design, sum_room}
use Rattle.gdd_pbd.proofs.basic.sum.Goals as goal

pub push_all-requires : goal.push_all-requires
push_all-requires c = let room = sum_room c.args.v c.args.k c.args.l c.args.i c.args.first.now c.args.second.now c.requires in grind arith

pub push_all-requires-2 : goal.push_all-requires-2
push_all-requires-2 c = let room = sum_room c.args.v c.args.k c.args.l c.args.i c.args.first.now c.args.second.now c.requires in grind arith

pub returns-clause-design : goal.returns-clause-design
returns-clause-design c = sum_design c.args.v c.args.k c.args.l c.args.i c.args.first.now c.args.second.now c.in_ok-blocks.blocks c.requires (search rules)
