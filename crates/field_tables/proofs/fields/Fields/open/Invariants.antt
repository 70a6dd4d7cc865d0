use Rattle.std.proofs.Common.{ℕ, ◌≡◌, ◌<◌, None, length}
use Rattle.std.specs.Prelude.{slice_index_or}
use Rattle.field_tables.specs.Tables.{field_order}
use Rattle.field_tables.proofs.fields.Fields.open.Given as goal

abbrev pub invariant-loop-q : goal.invariant-loop-q
invariant-loop-q l = record {
  size : length l.by_order.items ≡ l.q;
  each : (q : ℕ) → q < length l.by_order.items → slice_index_or l.by_order.items q None ≡ field_order q;
}
