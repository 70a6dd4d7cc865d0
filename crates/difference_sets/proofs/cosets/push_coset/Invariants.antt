-- The elements so far, and the next one.
use Rattle.std.proofs.Common.{length, take, ◌≡◌, ◌<◌, ◌+◌, ◌*◌}
use Rattle.counting.specs.Sums.{list_below}
use Rattle.design_base.specs.Fields.{field_product, gen}
use Rattle.design_base.specs.declared.limits.TheConstants.{POINTS_MAX}
use Rattle.difference_sets.specs.Families.{with_zero}
use Rattle.field_tables.specs.Powers.{power}
use Rattle.difference_sets.proofs.cosets.push_coset.Given as goal

abbrev pub invariant-loop-j : goal.invariant-loop-j
invariant-loop-j l = record {
  size : length l.row ≡ POINTS_MAX;
  elements : take (l.z + l.j) l.row ≡ with_zero l.z (list_below l.j (λ j. power (field_product l.field) (gen l.field) (l.i + l.e * j)));
  next : l.element ≡ power (field_product l.field) (gen l.field) (l.i + l.e * l.j);
  below : l.element < l.field;
}
