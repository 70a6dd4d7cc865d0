use Rattle.std.proofs.Common.{refl}
use Rattle.design_base.specs.declared.cells.TheConstants.{CELLS}
use Rattle.rule_table.specs.Noted.{noted}
use Rattle.rule_table.proofs.Remembered.{no_marks, none_noted}
use Rattle.rule_table.proofs.Visiting.{none_closed}
use Rattle.rule_table.proofs.marks.Marks.open.Goals as goal

pub invariant_of-result : goal.invariant_of-result
invariant_of-result c = no_marks CELLS c.in_ok-words.words refl c.in_ok-words.ensures

pub returns-clause-none : goal.returns-clause-none
returns-clause-none c = none_noted CELLS c.in_ok-words.words c.in_ok-words.ensures

pub returns-clause-closed : goal.returns-clause-closed
returns-clause-closed c = none_closed (noted c.in_ok-words.words) (none_noted CELLS c.in_ok-words.words c.in_ok-words.ensures)
