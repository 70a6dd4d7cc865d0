use Rattle.std.proofs.Common.{rules, arith}
use Rattle.memo_cells.proofs.TableSteps.{split_allowed}
use Rattle.memo_cells.proofs.cells.Cells.split.Goals as goal

pub split_seat-requires : goal.split_seat-requires
split_seat-requires c = (search rules, omega (arith, c.self.invariant), split_allowed _ _)
