-- The rows of the elements x so far.
use Rattle.std.proofs.Common.{◌*◌, ◌++◌, ◌+◌, ◌≡◌, ◌≤◌}
use Rattle.design_base.specs.Arrays.{blocks_of_rows}
use Rattle.design_base.specs.declared.limits.TheConstants.{TD_K_MAX, TD_N_MAX}
use Rattle.incidence.specs.Packed.{size_of}
use Rattle.transversal.proofs.lines.push_lines.Given as goal
use Rattle.transversal.specs.Constructions.{field_row, rows_below}

abbrev pub invariant-loop-x : goal.invariant-loop-x
invariant-loop-x l = record {
  rows : l.rows ≡ l.fn.rows ++ blocks_of_rows l.k l.field (rows_below l.x l.field (field_row l.k l.field));
  size : size_of l.rows ≤ size_of l.fn.rows + (TD_K_MAX + 1) * TD_N_MAX * l.x;
}
