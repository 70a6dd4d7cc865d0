-- The rows of the numbers i so far.
use Rattle.std.proofs.Common.{◌*◌, ◌++◌, ◌+◌, ◌≡◌}
use Rattle.design_base.specs.Arrays.{blocks_of_rows}
use Rattle.incidence.specs.Packed.{size_of}
use Rattle.transversal.proofs.differences.push_base_rows.Given as goal
use Rattle.transversal.specs.Constructions.{base_rows, translate}

abbrev pub invariant-loop-i : goal.invariant-loop-i
invariant-loop-i l = record {
  rows : l.rows ≡ l.fn.rows ++ blocks_of_rows 4 (3 * l.m + 1) (translate (2 * l.m + 1) l.c (base_rows l.m l.i));
  size : size_of l.rows ≡ size_of l.fn.rows + 20 * l.i + 5;
}
