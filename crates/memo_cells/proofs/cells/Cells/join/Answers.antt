use Rattle.std.proofs.Common.{rules, arith}
use Rattle.memo_cells.proofs.TableSteps.{join_allowed}
use Rattle.memo_cells.proofs.cells.Cells.join.Goals as goal

pub join_seat-requires : goal.join_seat-requires
join_seat-requires c = (search rules, search rules, search rules, omega (arith, c.self.invariant), join_allowed _ _ _ _)
