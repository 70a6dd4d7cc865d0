-- The rows so far.
use Rattle.std.proofs.Common.{◌*◌, ◌+◌, ◌++◌, ◌≡◌, ◌≤◌}
use Rattle.std.specs.Prelude.{is_some}
use Rattle.counting.specs.Sums.{list_below}
use Rattle.incidence.specs.Packed.{size_of}
use Rattle.three_designs.specs.Arrays.{cube_entry}
use Rattle.three_designs.specs.declared.limits.TheConstants.{OA3_K_MAX}
use Rattle.three_designs.proofs.arrays.push_line.Given as goal

abbrev pub invariant-loop-z : goal.invariant-loop-z
invariant-loop-z l = record {
  rows : l.rows ≡ l.fn.rows ++ list_below l.z (λ z. list_below l.k (cube_entry (is_some l.field) l.n l.x l.y z));
  size : size_of l.rows ≤ size_of l.fn.rows + (OA3_K_MAX + 1) * l.z;
}
