use Rattle.design_base.proofs.Numbering.{only_there}
use Rattle.design_base.proofs.cells.query_of.Goals as goal

pub returns-clause-only : goal.returns-clause-only
returns-clause-only c q b e = only_there c.args.cell c.bounded_at.result c.bounded_at.ensures q b e
