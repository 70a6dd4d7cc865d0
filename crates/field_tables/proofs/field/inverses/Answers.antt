use Rattle.std.proofs.Common.{arith}
use Rattle.field_tables.proofs.Listed.{listed_field, listed_small}
use Rattle.field_tables.proofs.field.inverses.Goals as goal

pub overflow_cast-inverse : goal.overflow_cast-inverse
overflow_cast-inverse c = omega (arith, listed_small c.args.ring.now c.order-x-end.ensures.listed)

pub returns : goal.returns
returns c = record {
  size = omega (arith, (listed_field c.args.ring.now c.order-x-end.ensures.listed).ring.one_below);
  solved = c.loop-x.invariant.solved;
}
