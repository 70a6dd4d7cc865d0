-- What is there and the points below v of the blocks to come.
use Rattle.incidence.proofs.Appended.{Extends}
use Rattle.incidence.specs.Packed.{size_of}
use Rattle.gdd_pbd.specs.Deleting.{below_point}
use Rattle.gdd_pbd.specs.Room.{IsShort}
use Rattle.gdd_pbd.proofs.pieces.push_fronts.Given as goal

abbrev pub invariant-loop-block : goal.invariant-loop-block
invariant-loop-block l = Extends (below_point l.v) size_of IsShort l.fn.rows l.design l.rows l.block-iterator
