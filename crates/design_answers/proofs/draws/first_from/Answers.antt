use Rattle.design_answers.proofs.MissingCells.{first_is}
use Rattle.design_answers.proofs.draws.first_from.Goals as goal

pub returns-clause-value : goal.returns-clause-value
returns-clause-value c = first_is c.args.start c.find_from.result c.requires c.find_from.ensures
