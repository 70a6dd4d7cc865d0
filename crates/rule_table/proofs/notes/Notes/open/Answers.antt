use Rattle.std.proofs.Common.{refl}
use Rattle.design_base.specs.declared.cells.TheConstants.{CELLS}
use Rattle.rule_table.proofs.Remembered.{no_notes, none_noted}
use Rattle.rule_table.proofs.notes.Notes.open.Goals as goal

pub invariant_of-result : goal.invariant_of-result
invariant_of-result c = no_notes CELLS c.in_ok-words.words refl c.in_ok-words.ensures

pub returns : goal.returns
returns c = none_noted CELLS c.in_ok-words.words c.in_ok-words.ensures
