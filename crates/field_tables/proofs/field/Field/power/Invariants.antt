-- The power so far.
use Rattle.std.proofs.Common.{◌≡◌, ◌<◌}
use Rattle.design_base.specs.Fields.{field_product}
use Rattle.field_tables.specs.Powers.{power}
use Rattle.field_tables.proofs.field.Field.power.Given as goal

abbrev pub invariant-loop : goal.invariant-loop
invariant-loop l = record {
  value : l.power ≡ power (field_product l.self) l.x l.counter;
  below : l.power < l.self;
}
