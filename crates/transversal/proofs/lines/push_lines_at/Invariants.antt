-- The rows of the elements y so far.
use Rattle.std.proofs.Common.{length, ◌*◌, ◌++◌, ◌+◌, ◌≡◌, ◌≤◌}
use Rattle.counting.specs.Sums.{list_below}
use Rattle.design_base.specs.Arrays.{blocks_of_rows}
use Rattle.design_base.specs.declared.limits.TheConstants.{TD_K_MAX}
use Rattle.incidence.specs.Packed.{size_of}
use Rattle.transversal.proofs.lines.push_lines_at.Given as goal
use Rattle.transversal.specs.Constructions.{field_row}

abbrev pub invariant-loop-y : goal.invariant-loop-y
invariant-loop-y l = record {
  rows : l.rows ≡ l.fn.rows ++ blocks_of_rows l.k l.field (list_below l.y (field_row l.k l.field l.x));
  block : length l.block ≡ TD_K_MAX;
  size : size_of l.rows ≤ size_of l.fn.rows + (TD_K_MAX + 1) * l.y;
}
