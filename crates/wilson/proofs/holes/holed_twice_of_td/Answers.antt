use Rattle.std.proofs.Common.{arith, ◌+◌}
use Rattle.wilson.proofs.Designs.{some_block}
use Rattle.wilson.proofs.DisjointRows.{disjoint_block}
use Rattle.wilson.proofs.holes.holed_twice_of_td.Goals as goal

pub disjoint_from_first-requires : goal.disjoint_from_first-requires
disjoint_from_first-requires c = some_block c.args.k (c.args.m + 2) c.args.td.now c.requires.two_groups (omega arith) c.requires.design

pub unwrap-apart-requires : goal.unwrap-apart-requires
unwrap-apart-requires c = c.disjoint_from_first.ensures.found c.args.k (c.args.m + 2) c.requires.two_groups (omega arith) c.requires.few_groups c.requires.design

pub holed_twice-requires-clause-apart : goal.holed_twice-requires-clause-apart
holed_twice-requires-clause-apart c =
    let place = disjoint_block c.args.k (c.args.m + 2) c.args.td.now c.requires.two_groups (omega arith) c.requires.few_groups c.requires.design in
    cc (c.disjoint_from_first.ensures.value, c.unwrap-apart.ensures, c.in_ok-array.ensures.rows)
