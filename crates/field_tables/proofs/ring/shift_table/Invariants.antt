use Rattle.std.proofs.Common.{length, ◌≡◌}
use Rattle.field_tables.specs.Tables.{IsValues, modulus_in, shifted}
use Rattle.field_tables.proofs.ring.shift_table.Given as goal

abbrev pub invariant-loop-y : goal.invariant-loop-y
invariant-loop-y l = record {
  size : length l.shifts.items ≡ l.y;
  values : IsValues (shifted (modulus_in l.polynomial)) l.shifts.items;
}
