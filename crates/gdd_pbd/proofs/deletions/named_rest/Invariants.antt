-- What is there and the blocks to come that miss p.
use Rattle.std.proofs.Common.{[]}
use Rattle.incidence.proofs.Appended.{Extends}
use Rattle.incidence.specs.Packed.{size_of}
use Rattle.gdd_pbd.proofs.deletions.named_rest.Given as goal
use Rattle.gdd_pbd.specs.Deleting.{place_in, renamed_rest}
use Rattle.gdd_pbd.specs.Room.{HasNames}

abbrev pub invariant-loop-block : goal.invariant-loop-block
invariant-loop-block l = Extends (renamed_rest (place_in l.g l.groups) l.p) size_of (HasNames l.g l.p l.groups) [] l.design l.rows l.block-iterator
