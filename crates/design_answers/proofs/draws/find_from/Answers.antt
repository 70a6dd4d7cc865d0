use Rattle.std.proofs.Common.{◌<◌, ℕ, ◌≤◌, arith}
use Rattle.design_base.specs.Cells.{cell_of}
use Rattle.design_base.specs.declared.limits.TheConstants.{PBD_S_MAX, POINTS_MAX}
use Rattle.design_base.specs.declared.query.Query.TheVariants.{Pbd}
use Rattle.design_base.specs.declared.cells.TheConstants.{CELLS}
use Rattle.design_answers.proofs.MissingCells.{last_cell, last_in}
use Rattle.design_answers.proofs.draws.find_from.Goals as goal

-- the last cell has a question, so it is not passed
before_last : (start cell : ℕ) → start < CELLS → (start ≤ cell_of (Pbd POINTS_MAX PBD_S_MAX) → cell ≤ cell_of (Pbd POINTS_MAX PBD_S_MAX)) → cell < CELLS
before_last start cell within none = omega (arith, last_cell, none (omega (arith, last_cell, within)))

pub cells-init : goal.cells-init
cells-init c = record { above = omega arith; none = λ p b h. h }

pub returns-in-Some : goal.returns-in-Some
returns-in-Some c =
    let i = c.cells.invariant in
    let found = c.in-Some.ensures.found in
    record {
      bounds = found.0;
      above = omega (arith, found.1, i.above);
      least = λ p b h. omega (arith, found.1, i.none p b h);
    }

pub row_end-cell-requires-clause-within : goal.row_end-cell-requires-clause-within
row_end-cell-requires-clause-within c = before_last c.args.start c.cells.cell c.requires (λ h. c.cells.invariant.none (Pbd POINTS_MAX PBD_S_MAX) last_in h)

pub cells-smaller : goal.cells-smaller
cells-smaller c =
    let within = before_last c.args.start c.cells.cell c.requires (λ h. c.cells.invariant.none (Pbd POINTS_MAX PBD_S_MAX) last_in h) in
    omega (arith, within, c.row_end-cell.ensures.later)

pub cells-preserved : goal.cells-preserved
cells-preserved c = record {
  above = omega (arith, c.cells.invariant.above, c.row_end-cell.ensures.later);
  none = λ p b h. c.row_end-cell.ensures.none p b (c.cells.invariant.none p b h);
}
