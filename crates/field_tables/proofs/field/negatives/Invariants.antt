use Rattle.std.proofs.Common.{ℕ, ◌≡◌, ◌<◌, ◌≤◌, length, slice_index}
use Rattle.design_base.specs.Fields.{field_sum}
use Rattle.field_tables.proofs.field.negatives.Given as goal

abbrev pub invariant-loop-x : goal.invariant-loop-x
invariant-loop-x l = record {
  size : length l.negatives.items ≡ l.x;
  solved : (x : ℕ) → 0 ≤ x → x < length l.negatives.items → (slice_index l.negatives.items x < l.ring) × (field_sum l.ring x (slice_index l.negatives.items x) ≡ 0);
}
