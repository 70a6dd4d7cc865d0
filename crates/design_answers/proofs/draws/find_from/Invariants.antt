use Rattle.std.proofs.Common.{◌≡◌, ◌≤◌, true, ◌-◌}
use Rattle.design_base.specs.Cells.{cell_of}
use Rattle.design_base.specs.Limits.{in_bounds}
use Rattle.design_base.specs.declared.cells.TheConstants.{CELLS}
use Rattle.design_base.specs.declared.query.Query.{Query}
use Rattle.design_answers.proofs.draws.find_from.Given as goal

abbrev pub invariant-cells : goal.invariant-cells
invariant-cells l = record {
  above : l.start ≤ l.cell;
  none : (p : Query) → in_bounds p ≡ true → l.start ≤ cell_of p → l.cell ≤ cell_of p;
}

abbrev pub decreases-cells : goal.decreases-cells
decreases-cells l = CELLS - l.cell
