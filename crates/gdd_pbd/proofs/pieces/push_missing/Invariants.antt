-- The points so far.
use Rattle.std.proofs.Common.{length, take, ◌≡◌, ◌≤◌}
use Rattle.design_base.specs.declared.limits.TheConstants.{POINTS_MAX}
use Rattle.gdd_pbd.specs.Basic.{missing}
use Rattle.gdd_pbd.proofs.pieces.push_missing.Given as goal

abbrev pub invariant-loop-x : goal.invariant-loop-x
invariant-loop-x l = record {
  size : length l.points ≡ POINTS_MAX;
  few : l.n ≤ l.x;
  points : take l.n l.points ≡ missing l.x l.block;
}
