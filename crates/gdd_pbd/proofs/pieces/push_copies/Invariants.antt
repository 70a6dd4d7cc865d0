-- What is there and the copies of the blocks to come.
use Rattle.std.proofs.Common.{length, ◌*◌}
use Rattle.incidence.proofs.Appended.{Extends}
use Rattle.incidence.specs.Packed.{size_of}
use Rattle.gdd_pbd.specs.Filling.{place_by, rename}
use Rattle.gdd_pbd.specs.Room.{FitsIn}
use Rattle.gdd_pbd.proofs.pieces.push_copies.Given as goal

abbrev pub invariant-loop-piece : goal.invariant-loop-piece
invariant-loop-piece l = Extends (rename (place_by l.w l.block)) size_of (FitsIn (length l.block * l.w)) l.fn.rows l.design l.rows l.piece-iterator
