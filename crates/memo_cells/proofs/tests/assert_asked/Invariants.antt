use Rattle.std.proofs.Common.{◌≡◌}
use Rattle.memo_cells.proofs.tests.assert_asked.Given as goal

abbrev pub invariant-loop-v : goal.invariant-loop-v
invariant-loop-v g l = record { pass : l.pass.memo ≡ l.initial.pass.memo; asker : l.asker.memo ≡ l.initial.asker.memo }
