-- The rows so far.
use Rattle.std.proofs.Common.{◌*◌, ◌+◌, ◌≡◌, ◌≤◌}
use Rattle.std.specs.Prelude.{is_some}
use Rattle.counting.specs.Sums.{join_below, list_below}
use Rattle.incidence.specs.Packed.{size_of}
use Rattle.three_designs.specs.Arrays.{cube_entry}
use Rattle.three_designs.specs.declared.limits.TheConstants.{OA3_K_MAX, OA3_N_MAX}
use Rattle.three_designs.proofs.arrays.cube.Given as goal

abbrev pub invariant-loop-x : goal.invariant-loop-x
invariant-loop-x l = record {
  rows : l.rows ≡ join_below l.x (λ x. join_below l.n (λ y. list_below l.n (λ z. list_below l.k (cube_entry (is_some l.field) l.n x y z))));
  size : size_of l.rows ≤ (OA3_K_MAX + 1) * OA3_N_MAX * OA3_N_MAX * l.x;
}
