use Rattle.std.proofs.Common.{length}
use Rattle.rule_table.specs.Noted.{noted}
use Rattle.rule_table.proofs.Remembered.{no_marks, none_noted}
use Rattle.rule_table.proofs.Visiting.{none_closed}
use Rattle.rule_table.proofs.marks.Marks.clear.Goals as goal

pub invariant_of-self : goal.invariant_of-self
invariant_of-self c = no_marks (length c.self.inside.words) c.clear.new.self c.self.invariant.cells c.clear.ensures

pub returns-clause-none : goal.returns-clause-none
returns-clause-none c = none_noted (length c.self.inside.words) c.clear.new.self c.clear.ensures

pub returns-clause-closed : goal.returns-clause-closed
returns-clause-closed c = none_closed (noted c.clear.new.self) (none_noted (length c.self.inside.words) c.clear.new.self c.clear.ensures)
