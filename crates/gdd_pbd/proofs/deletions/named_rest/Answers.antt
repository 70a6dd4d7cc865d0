use Rattle.std.proofs.Common.{arith}
use Rattle.incidence.proofs.Appended.{extends_next}
use Rattle.incidence.proofs.Sizes.{size_of-cons}
use Rattle.incidence.specs.Packed.{size_of}
use Rattle.gdd_pbd.proofs.Steps.{renamed_rest-next}
use Rattle.gdd_pbd.proofs.deletions.named_rest.Goals as goal
use Rattle.gdd_pbd.specs.Deleting.{place_in, renamed_rest}
use Rattle.gdd_pbd.specs.Room.{HasNames}

pub loop-block-preserved : goal.loop-block-preserved
loop-block-preserved c = extends_next (renamed_rest (place_in c.args.g c.args.groups.now) c.args.p) size_of (HasNames c.args.g c.args.p c.args.groups.now) _ _ _ _ _ _ c.in-Some.block.now _ c.loop-block.invariant (grind arith) (renamed_rest-next _ _ _ _)
    c.in_ok-push_rest.ensures.ok (omega (arith, c.in_ok-push_rest.ensures.size, size_of-cons c.in-Some.block.now c.next.new.self))
