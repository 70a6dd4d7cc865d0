use Rattle.std.proofs.Common.{ℕ, ◌≡◌, ◌<◌, ◌≤◌, length, slice_index}
use Rattle.design_base.specs.Fields.{field_product}
use Rattle.field_tables.proofs.field.inverses.Given as goal

abbrev pub invariant-loop-x : goal.invariant-loop-x
invariant-loop-x l = record {
  size : length l.inverses.items ≡ l.x;
  solved : (x : ℕ) → 1 ≤ x → x < length l.inverses.items → (slice_index l.inverses.items x < l.ring) × (field_product l.ring x (slice_index l.inverses.items x) ≡ 1);
}
