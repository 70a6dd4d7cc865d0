use Rattle.std.proofs.Common.{arith}
use Rattle.field_tables.proofs.Listed.{listed_field}
use Rattle.field_tables.proofs.field.inverse.Goals as goal

pub unreachable-requires : goal.unreachable-requires
unreachable-requires c =
    let there = (listed_field c.args.ring.now c.order-y-end.ensures.listed).inverses c.args.x c.requires.nonzero c.requires.below in
    c.loop-y.invariant there.0 (omega arith) there.2
