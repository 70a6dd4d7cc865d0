use Rattle.std.proofs.Common.{ap, ◌∙◌}
use Rattle.std.specs.FinSet as set
use Rattle.rule_table.specs.Told.{Cells}
use Rattle.rule_table.proofs.marks.Marks.count.Goals as goal

pub returns : goal.returns
returns c = c.self.invariant.count ∙ ap (λ (s : Cells). set.len s) c.self.view_is
