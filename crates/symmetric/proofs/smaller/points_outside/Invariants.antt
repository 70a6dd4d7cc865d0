-- The points so far.
use Rattle.std.proofs.Common.{not, ◌≡◌}
use Rattle.design_base.specs.Blocks.{holds}
use Rattle.symmetric.proofs.Passing.{passing}
use Rattle.symmetric.proofs.smaller.points_outside.Given as goal

abbrev pub invariant-loop-x : goal.invariant-loop-x
invariant-loop-x l = l.points.items ≡ passing (λ x. not (holds x l.block)) l.x
