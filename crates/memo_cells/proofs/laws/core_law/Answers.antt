use Rattle.memo_cells.proofs.CoreLaws.{core_lawful, codes_lawful, closures_lawful}
use Rattle.memo_cells.proofs.laws.core_law.Goals as goal

pub returns-clause-lawful : goal.returns-clause-lawful
returns-clause-lawful c = core_lawful

pub returns-clause-codes : goal.returns-clause-codes
returns-clause-codes c = codes_lawful

pub returns-clause-closures : goal.returns-clause-closures
returns-clause-closures c = closures_lawful
