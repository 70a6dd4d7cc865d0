use Rattle.std.proofs.Common.{[], ap, arith, length, refl, ◌*◌, ◌≡◌}
use Rattle.incidence.proofs.Appended.{extends_all, extends_next}
use Rattle.incidence.proofs.Sizes.{size_of-append, size_of-cons}
use Rattle.incidence.specs.Packed.{size_of}
use Rattle.gdd_pbd.proofs.Steps.{size_of-renamed}
use Rattle.gdd_pbd.proofs.pieces.push_copies.Goals as goal
use Rattle.gdd_pbd.specs.Filling.{place_by, rename}
use Rattle.gdd_pbd.specs.Room.{FitsIn}

pub loop-piece-preserved : goal.loop-piece-preserved
unfolding rename
loop-piece-preserved c = extends_next (rename (place_by c.args.w c.args.block.now)) size_of (FitsIn (length c.args.block.now * c.args.w)) _ _ _ _ _ _ c.in-Some.piece.now _ c.loop-piece.invariant (grind arith) refl c.in_ok-push_copy.ensures.ok
    (omega (arith, c.in_ok-push_copy.ensures.size, size_of-cons c.in-Some.piece.now c.next.new.self))

pub returns-clause-size : goal.returns-clause-size
unfolding rename
returns-clause-size c =
    let done : c.loop-piece.piece-iterator ≡ [] = grind arith in
    let point = place_by c.args.w c.args.block.now in
    omega (
      arith,
      ap size_of (extends_all (rename point) size_of (FitsIn (length c.args.block.now * c.args.w)) _ _ _ _ c.loop-piece.invariant done refl),
      size_of-append c.args.rows.now (rename point c.args.design.now),
      size_of-renamed point c.args.design.now,
    )
