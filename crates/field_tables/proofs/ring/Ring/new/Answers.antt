use Rattle.std.proofs.Common.{ap}
use Rattle.std.specs.Prelude.{is_some}
use Rattle.field_tables.proofs.Fill.{modular}
use Rattle.field_tables.proofs.ring.Ring.new.Goals as goal

pub invariant_of-result : goal.invariant_of-result
invariant_of-result c = (ap is_some c.requires, modular c.args.polynomial.now c.requires c.if-order-polynomial.true)
