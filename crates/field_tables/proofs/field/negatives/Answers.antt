use Rattle.std.proofs.Common.{arith}
use Rattle.field_tables.proofs.Listed.{listed_small}
use Rattle.field_tables.proofs.field.negatives.Goals as goal

pub overflow_cast-negative : goal.overflow_cast-negative
overflow_cast-negative c = omega (arith, listed_small c.args.ring.now c.order-x-end.ensures.listed)
