use Rattle.std.proofs.Common.{ap, arith, map, refl, ◌∷◌, ◌≡◌}
use Rattle.design_base.specs.Blocks.{IsBlock}
use Rattle.incidence.proofs.Appended.{extends_next}
use Rattle.incidence.specs.Packed.{size_of}
use Rattle.three_designs.specs.Quadruples.{moved}
use Rattle.three_designs.proofs.Grown.{next_room}
use Rattle.three_designs.proofs.doubling.push_moved.Goals as goal

pub push_moved_block-requires-clause-room : goal.push_moved_block-requires-clause-room
push_moved_block-requires-clause-room c =
    let is : c.loop-block.block-iterator ≡ c.in-Some.block.now ∷ c.next.new.self = grind arith in
    omega (arith, next_room c.args.w _ _ _ is c.loop-block.invariant.each, c.loop-block.invariant.size, c.requires.room)

pub loop-block-preserved : goal.loop-block-preserved
loop-block-preserved c =
    let is : c.loop-block.block-iterator ≡ c.in-Some.block.now ∷ c.next.new.self = grind arith in
    extends_next (map (moved c.args.w)) size_of (IsBlock c.args.w (λ size. size ≡ 4)) _ _ _ _ _ _ c.in-Some.block.now _ c.loop-block.invariant is refl c.in_ok-push_moved_block.ensures.ok
    (omega (arith, c.in_ok-push_moved_block.ensures.size, ap size_of is, next_room c.args.w _ _ _ is c.loop-block.invariant.each))
