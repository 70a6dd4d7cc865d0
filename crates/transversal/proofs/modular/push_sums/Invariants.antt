-- The rows of the numbers y so far.
use Rattle.std.proofs.Common.{◌*◌, ◌++◌, ◌+◌, ◌≡◌, ◌≤◌}
use Rattle.counting.specs.Sums.{list_below}
use Rattle.design_base.specs.Arrays.{blocks_of_rows}
use Rattle.incidence.specs.Packed.{size_of}
use Rattle.transversal.proofs.modular.push_sums.Given as goal
use Rattle.transversal.specs.Constructions.{cyclic_row}

abbrev pub invariant-loop-y : goal.invariant-loop-y
invariant-loop-y l = record {
  rows : l.rows ≡ l.fn.rows ++ blocks_of_rows l.k l.n (list_below l.y (cyclic_row l.k l.n l.x));
  size : size_of l.rows ≤ size_of l.fn.rows + 4 * l.y;
}
