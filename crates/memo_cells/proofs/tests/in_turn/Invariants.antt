use Rattle.std.proofs.Common.{◌≡◌}
use Rattle.memo_cells.proofs.tests.in_turn.Given as goal

abbrev pub invariant-loop-i : goal.invariant-loop-i
invariant-loop-i g l = l.pass.memo ≡ l.fn.pass.memo
