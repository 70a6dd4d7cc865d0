use Rattle.std.proofs.Common.{length, ◌≡◌, ◌*◌}
use Rattle.design_base.specs.Fields.{field_product}
use Rattle.field_tables.specs.Tables.{IsValues, by_rows}
use Rattle.field_tables.proofs.Values.{IsBegun}
use Rattle.field_tables.proofs.ring.product_table.Given as goal

abbrev pub invariant-loop-x : goal.invariant-loop-x
invariant-loop-x l = record {
  size : length l.products.items ≡ l.x * l.polynomial.order;
  entries : IsValues (by_rows (field_product l.polynomial.order) l.polynomial.order) l.products.items;
}

abbrev pub invariant-loop-y : goal.invariant-loop-y
invariant-loop-y l = IsBegun (field_product l.polynomial.order) l.polynomial.order l.x l.y l.products.items
