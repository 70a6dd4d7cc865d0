use Rattle.std.proofs.Common.{arith}
use Rattle.incidence.proofs.Appended.{extends_next}
use Rattle.incidence.proofs.Sizes.{size_of-cons}
use Rattle.incidence.specs.Packed.{size_of}
use Rattle.gdd_pbd.proofs.Steps.{groups_at-next}
use Rattle.gdd_pbd.proofs.deletions.through.Goals as goal
use Rattle.gdd_pbd.specs.Deleting.{groups_at}
use Rattle.gdd_pbd.specs.Room.{IsShort}

pub loop-block-preserved : goal.loop-block-preserved
loop-block-preserved c = extends_next (groups_at c.args.p) size_of IsShort _ _ _ _ _ _ c.in-Some.block.now _ c.loop-block.invariant (grind arith) (groups_at-next _ _ _) c.in_ok-push_through.ensures.ok
    (omega (arith, c.in_ok-push_through.ensures.size, size_of-cons c.in-Some.block.now c.next.new.self))
