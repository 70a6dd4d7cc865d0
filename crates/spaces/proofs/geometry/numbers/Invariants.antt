use Rattle.spaces.specs.Points.{AreNumbers}
use Rattle.spaces.proofs.geometry.numbers.Given as goal

abbrev pub invariant-loop-x : goal.invariant-loop-x
invariant-loop-x l = AreNumbers l.x l.numbers.items
