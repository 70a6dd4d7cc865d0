use Rattle.std.proofs.Common.{subst, sym, ◌*◌, ◌+◌}
use Rattle.design_base.specs.Blocks.{IsTd}
use Rattle.wilson.proofs.Designs.{wilson_two_design}
use Rattle.wilson.proofs.Rooms.{two_fits}
use Rattle.wilson.proofs.truncations.truncate_two.Goals as goal

pub assemble_two-requires-clause-room : goal.assemble_two-requires-clause-room
assemble_two-requires-clause-room c = two_fits c.args.k c.args.m c.args.t c.args.u c.args.w
    c.args.master.now c.args.small.now c.args.large.now c.args.larger.now c.args.first_rest.now c.args.second_rest.now c.in_ok-small.small c.in_ok-large.large c.in_ok-larger.larger c.requires
    c.in_ok-small.ensures.rows c.in_ok-large.ensures.without c.in_ok-larger.ensures.without

pub returns-clause-blocks : goal.returns-clause-blocks
returns-clause-blocks c = cc (c.in_ok-blocks.ensures, c.in_ok-small.ensures.rows, c.in_ok-large.ensures.without, c.in_ok-larger.ensures.without)

pub returns-clause-design : goal.returns-clause-design
returns-clause-design c = subst (λ B. IsTd B c.args.k (c.args.m * c.args.t + c.args.u + c.args.w)) (sym (returns-clause-blocks c))
    (wilson_two_design c.args.k c.args.m c.args.t c.args.u c.args.w
    c.args.master.now c.args.small.now c.args.large.now c.args.larger.now c.args.first_rest.now c.args.second_rest.now c.requires)
