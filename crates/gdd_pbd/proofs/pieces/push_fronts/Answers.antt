use Rattle.std.proofs.Common.{arith, refl}
use Rattle.incidence.proofs.Appended.{extends_next}
use Rattle.incidence.proofs.Sizes.{size_of-cons}
use Rattle.incidence.specs.Packed.{size_of}
use Rattle.gdd_pbd.proofs.pieces.push_fronts.Goals as goal
use Rattle.gdd_pbd.specs.Deleting.{below_point}
use Rattle.gdd_pbd.specs.Room.{IsShort}

pub loop-block-preserved : goal.loop-block-preserved
unfolding below_point
loop-block-preserved c = extends_next (below_point c.args.v) size_of IsShort _ _ _ _ _ _ c.in-Some.block.now _ c.loop-block.invariant (grind arith) refl c.in_ok-push_front.ensures.ok
    (omega (arith, c.in_ok-push_front.ensures.size, size_of-cons c.in-Some.block.now c.next.new.self))
