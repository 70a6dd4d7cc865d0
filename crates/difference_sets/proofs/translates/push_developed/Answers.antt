use Rattle.std.proofs.Common.{ap, arith, length, refl, ◌*◌, ◌+◌, ◌∷◌, ◌≡◌}
use Rattle.std.specs.List.{flat_map}
use Rattle.design_base.specs.Blocks.{IsBlock}
use Rattle.design_base.specs.Meets.{group_add}
use Rattle.difference_sets.specs.Develop.{translates_below}
use Rattle.difference_sets.proofs.TranslateSteps.{next_room, next_size}
use Rattle.incidence.proofs.Appended.{extends_next}
use Rattle.difference_sets.proofs.translates.push_developed.Goals as goal

pub push_translates-requires-clause-room : goal.push_translates-requires-clause-room
push_translates-requires-clause-room c =
    let is : c.loop-block.block-iterator ≡ c.in-Some.block.now ∷ c.next.new.self = grind arith in
    let size = next_size _ _ _ is c.args.sums.now.1 c.args.k c.loop-block.invariant.each in
    omega (arith, next_room _ _ _ is c.args.sums.now.1 c.args.k size, c.loop-block.invariant.size, c.requires.room)

pub loop-block-preserved : goal.loop-block-preserved
loop-block-preserved c =
    let is : c.loop-block.block-iterator ≡ c.in-Some.block.now ∷ c.next.new.self = grind arith in
    let size = next_size _ _ _ is c.args.sums.now.1 c.args.k c.loop-block.invariant.each in
    extends_next (flat_map (translates_below c.args.sums.now.1 (group_add c.args.sums.now.0 c.args.sums.now.1))) (λ B. c.args.sums.now.1 * ((c.args.k + 1) * length B)) (IsBlock c.args.sums.now.1 (λ size. size ≡ c.args.k)) _ _ _ _ _ _ c.in-Some.block.now _ c.loop-block.invariant is refl
    c.in_ok-push_translates.ensures.ok (omega (arith, c.in_ok-push_translates.ensures.size, next_room _ _ _ is c.args.sums.now.1 c.args.k size, ap (λ B. c.args.sums.now.1 * ((c.args.k + 1) * length B)) is))
