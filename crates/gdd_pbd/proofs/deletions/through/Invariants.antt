-- What is there and the groups of the blocks to come.
use Rattle.std.proofs.Common.{[]}
use Rattle.incidence.proofs.Appended.{Extends}
use Rattle.incidence.specs.Packed.{size_of}
use Rattle.gdd_pbd.proofs.deletions.through.Given as goal
use Rattle.gdd_pbd.specs.Deleting.{groups_at}
use Rattle.gdd_pbd.specs.Room.{IsShort}

abbrev pub invariant-loop-block : goal.invariant-loop-block
invariant-loop-block l = Extends (groups_at l.p) size_of IsShort [] l.design l.rows l.block-iterator
