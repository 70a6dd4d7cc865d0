use Rattle.std.proofs.Common.{ap, subst, sym, ◌-◌, ◌/◌, ◌∙◌}
use Rattle.design_base.specs.Canonical.{canonical}
use Rattle.three_designs.specs.Quadruples.{double_blocks}
use Rattle.three_designs.specs.StrengthThree.{IsSqs}
use Rattle.three_designs.proofs.MadeSystems.{halved, sqs_made}
use Rattle.three_designs.proofs.quadruples.+blocks_within.Goals as goal

pub double-requires-clause-blocks : goal.double-requires-clause-blocks
double-requires-clause-blocks t c =
    let h = halved c.args.halvings c.args.v c.requires.yes c.if-v-eq4.false c.if-v-eq10.false in
    (subst (λ B. IsSqs B (c.args.v / 2)) (sym c.in_ok-half.ensures.blocks) (sqs_made (c.args.halvings - 1) (c.args.v / 2) h.half)).blocks

pub returns-clause-blocks : goal.returns-clause-blocks
returns-clause-blocks t c =
    let h = halved c.args.halvings c.args.v c.requires.yes c.if-v-eq4.false c.if-v-eq10.false in
    c.in_ok-rows-3.ensures.blocks ∙ ap (λ B. canonical (double_blocks (c.args.v / 2) B)) c.in_ok-half.ensures.blocks ∙ sym h.list
