-- The last entries so far, as a vector.
use Rattle.std.proofs.Common.{drop, length, ◌-◌, ◌<◌, ◌^◌, ◌≡◌}
use Rattle.design_base.specs.Digits.{number}
use Rattle.design_base.specs.Fields.{field_sum}
use Rattle.spaces.specs.Vectors.{entrywise}
use Rattle.spaces.proofs.vectors.sum_of_entries.Given as goal

abbrev pub invariant-loop-i : goal.invariant-loop-i
invariant-loop-i l = record {
  value : l.sum ≡ number l.field (entrywise (field_sum l.field) (drop (length l.x - l.i) l.x) (drop (length l.x - l.i) l.y));
  below : l.sum < l.field ^ l.i;
}
