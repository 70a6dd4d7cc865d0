use Rattle.std.proofs.Common.{ℕ, ◌≡◌, ◌<◌, ◌-◌, length}
use Rattle.counting.specs.Search.{is_among}
use Rattle.design_base.specs.Fields.{field_product, powers}
use Rattle.field_tables.proofs.Marks.{comes}
use Rattle.field_tables.proofs.field.powers.Given as goal

abbrev pub invariant-loop : goal.invariant-loop
invariant-loop l = record {
  size : length l.seen.items ≡ l.ring;
  power : l.power < l.ring;
  marks : (y : ℕ) → comes (field_product l.ring) l.g l.power (l.ring - l.counter) l.seen.items y ≡ is_among y (powers l.ring l.g);
}
