use Rattle.std.proofs.Common.{arith}
use Rattle.design_answers.proofs.MissingCells.{behind_front, row_missing}
use Rattle.design_answers.proofs.draws.row_end.Goals as goal

pub overflow_sub-result : goal.overflow_sub-result
overflow_sub-result c = behind_front c.args.cell c.requires.none

pub overflow_add-result : goal.overflow_add-result
overflow_add-result c = omega (arith, c.requires.within)

pub overflow_mul-result : goal.overflow_mul-result
overflow_mul-result c = omega (arith, c.requires.within)

pub overflow_add-result-2 : goal.overflow_add-result-2
overflow_add-result-2 c = omega (arith, c.requires.within)

pub returns-clause-later : goal.returns-clause-later
returns-clause-later c = omega (arith, behind_front c.args.cell c.requires.none)

pub returns-clause-none : goal.returns-clause-none
returns-clause-none c p b below = row_missing c.args.cell c.requires.none p b below
