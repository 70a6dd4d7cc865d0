use Rattle.std.proofs.Common.{subst, sym, ◌*◌, ◌+◌}
use Rattle.design_base.specs.Blocks.{IsTd}
use Rattle.wilson.proofs.Designs.{wilson_one_design}
use Rattle.wilson.proofs.Rooms.{one_fits}
use Rattle.wilson.proofs.truncations.truncate_one.Goals as goal

pub assemble_one-requires-clause-room : goal.assemble_one-requires-clause-room
assemble_one-requires-clause-room c = one_fits c.args.k c.args.m c.args.t c.args.u c.args.master.now c.args.small.now c.args.large.now c.args.rest.now
    c.in_ok-small.small c.in_ok-large.large c.requires c.in_ok-small.ensures.rows c.in_ok-large.ensures.without

pub returns-clause-blocks : goal.returns-clause-blocks
returns-clause-blocks c = cc (c.in_ok-blocks.ensures, c.in_ok-small.ensures.rows, c.in_ok-large.ensures.without)

pub returns-clause-design : goal.returns-clause-design
returns-clause-design c = subst (λ B. IsTd B c.args.k (c.args.m * c.args.t + c.args.u)) (sym (returns-clause-blocks c))
    (wilson_one_design c.args.k c.args.m c.args.t c.args.u c.args.master.now c.args.small.now c.args.large.now c.args.rest.now c.requires)
