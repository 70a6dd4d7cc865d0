-- The pairs of the numbers so far are counted.
use Rattle.design_checks.proofs.Counting.{Left}
use Rattle.design_checks.proofs.counts.count_row.Given as goal

abbrev pub invariant-loop-i : goal.invariant-loop-i
invariant-loop-i l = Left l.fn.counts l.counts l.row l.v l.low l.high l.i
