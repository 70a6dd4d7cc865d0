-- The rows of the numbers x so far.
use Rattle.std.proofs.Common.{◌*◌, ◌++◌, ◌+◌, ◌≡◌, ◌≤◌}
use Rattle.design_base.specs.Arrays.{blocks_of_rows}
use Rattle.design_base.specs.declared.limits.TheConstants.{TD_N_MAX}
use Rattle.incidence.specs.Packed.{size_of}
use Rattle.transversal.proofs.modular.push_cyclic.Given as goal
use Rattle.transversal.specs.Constructions.{cyclic_row, rows_below}

abbrev pub invariant-loop-x : goal.invariant-loop-x
invariant-loop-x l = record {
  rows : l.rows ≡ l.fn.rows ++ blocks_of_rows l.k l.n (rows_below l.x l.n (cyclic_row l.k l.n));
  size : size_of l.rows ≤ size_of l.fn.rows + 4 * TD_N_MAX * l.x;
}
