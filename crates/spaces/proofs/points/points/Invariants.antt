use Rattle.std.proofs.Common.{◌≡◌}
use Rattle.spaces.specs.Points.{points_below}
use Rattle.spaces.proofs.points.points.Given as goal

abbrev pub invariant-loop-x : goal.invariant-loop-x
invariant-loop-x l = l.points.items ≡ points_below l.q l.n l.x
