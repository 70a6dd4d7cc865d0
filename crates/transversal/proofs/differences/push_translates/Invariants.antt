-- The rows of the numbers c so far.
use Rattle.std.proofs.Common.{◌*◌, ◌++◌, ◌+◌, ◌≡◌, ◌≤◌}
use Rattle.design_base.specs.Arrays.{blocks_of_rows}
use Rattle.design_base.specs.declared.limits.TheConstants.{TD_N_MAX}
use Rattle.incidence.specs.Packed.{size_of}
use Rattle.transversal.proofs.differences.push_translates.Given as goal
use Rattle.transversal.specs.Constructions.{base_rows, translates_below}

abbrev pub invariant-loop-c : goal.invariant-loop-c
invariant-loop-c l = record {
  rows : l.rows ≡ l.fn.rows ++ blocks_of_rows 4 (3 * l.m + 1) (translates_below (2 * l.m + 1) l.c (base_rows l.m l.m));
  size : size_of l.rows ≤ size_of l.fn.rows + 20 * TD_N_MAX * l.c;
}
