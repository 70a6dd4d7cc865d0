-- The points of the groups so far meet all points of later groups.
use Rattle.std.proofs.Common.{ℕ, ◌<◌}
use Rattle.design_checks.specs.Bits.{MeetsLater}
use Rattle.design_checks.proofs.transversal.all_meet.Given as goal

abbrev pub invariant-loop-i : goal.invariant-loop-i
invariant-loop-i l = (i : ℕ) → i < l.i → MeetsLater l.k l.n i l.rows
