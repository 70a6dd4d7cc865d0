use Rattle.std.proofs.Common.{rules, arith}
use Rattle.memo_cells.proofs.TableSteps.{load_allowed}
use Rattle.memo_cells.proofs.cells.Cells.load.Goals as goal

pub load-requires : goal.load-requires
load-requires c = (search rules, omega (arith, c.self.invariant, c.cell_of.ensures.within), load_allowed _ _ _ _)
