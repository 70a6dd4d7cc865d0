use Rattle.std.proofs.Common.{length, ◌≡◌, ◌*◌}
use Rattle.design_base.specs.Fields.{field_sum}
use Rattle.field_tables.specs.Tables.{IsValues, by_rows}
use Rattle.field_tables.proofs.Values.{IsBegun}
use Rattle.field_tables.proofs.ring.sum_table.Given as goal

abbrev pub invariant-loop-x : goal.invariant-loop-x
invariant-loop-x l = record {
  size : length l.sums.items ≡ l.x * l.polynomial.order;
  entries : IsValues (by_rows (field_sum l.polynomial.order) l.polynomial.order) l.sums.items;
}

abbrev pub invariant-loop-y : goal.invariant-loop-y
invariant-loop-y l = IsBegun (field_sum l.polynomial.order) l.polynomial.order l.x l.y l.sums.items
