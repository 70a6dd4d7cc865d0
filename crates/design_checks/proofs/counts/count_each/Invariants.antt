-- The rows so far are counted.
use Rattle.std.proofs.Common.{take}
use Rattle.design_checks.specs.Counts.{Counts}
use Rattle.design_checks.proofs.counts.count_each.Given as goal

abbrev pub invariant-loop-i : goal.invariant-loop-i
invariant-loop-i l = Counts l.counts l.v l.low l.high (take l.i l.rows)
