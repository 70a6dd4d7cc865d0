use Rattle.std.proofs.Common.{refl}
use Rattle.counting.specs.Search.{each_passes}
use Rattle.design_base.specs.Fields.{moduli, modulus_of}
use Rattle.field_tables.proofs.polynomial.listed.Goals as goal

pub of_order-requires : goal.of_order-requires
unfolding each_passes
of_order-requires c = record { orders = refl }

pub returns : goal.returns
unfolding modulus_of moduli
returns c = c.of_order.ensures
