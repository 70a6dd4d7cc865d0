-- The places so far.
use Rattle.std.proofs.Common.{get_or, ◌≡◌}
use Rattle.design_base.specs.Blocks.{holds}
use Rattle.symmetric.proofs.Passing.{passing}
use Rattle.symmetric.proofs.smaller.part.Given as goal

abbrev pub invariant-loop-m : goal.invariant-loop-m
invariant-loop-m l = l.part.items ≡ passing (λ m. holds (get_or l.points m 0) l.block) l.m
