-- The rows so far.
use Rattle.std.proofs.Common.{◌≡◌, ◌*◌, ◌+◌}
use Rattle.design_base.specs.Fields.{field_product, gen}
use Rattle.difference_sets.specs.Families.{cosets}
use Rattle.incidence.specs.Packed.{size_of}
use Rattle.difference_sets.proofs.cosets.base_blocks_of_cosets.Given as goal

abbrev pub invariant-loop-i : goal.invariant-loop-i
invariant-loop-i l = record {
  rows : l.rows ≡ cosets (field_product l.field) (gen l.field) l.z l.e l.f l.i;
  size : size_of l.rows ≡ l.i * (l.f + l.z + 1);
}
