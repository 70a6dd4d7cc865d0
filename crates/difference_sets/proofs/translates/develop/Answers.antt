use Rattle.std.proofs.Common.{ap, arith, length, subst, sym, ℕ, ◌*◌, ◌+◌, ◌≡◌}
use Rattle.design_base.specs.Blocks.{IsBibd}
use Rattle.design_base.specs.Canonical.{canonical}
use Rattle.design_base.specs.declared.query.Group.{Group}
use Rattle.difference_sets.specs.Develop.{developed}
use Rattle.difference_sets.proofs.Translations.{develop_design, develop_room}
use Rattle.incidence.specs.Packed.{size_of}
use Rattle.difference_sets.proofs.translates.develop.Goals as goal

pub push_developed-requires-clause-room : goal.push_developed-requires-clause-room
push_developed-requires-clause-room c =
    let order = ap (λ (s : Group × ℕ). s.1 * ((c.args.k + 1) * length c.args.base.now)) c.in_ok-sums.ensures in
    omega (arith, ap size_of c.in_ok-rows.ensures, order, develop_room c.args.group c.args.v c.args.k c.args.l c.args.base.now c.requires)

pub returns-clause-design : goal.returns-clause-design
unfolding developed
returns-clause-design c =
    let blocks : c.in_ok-blocks.blocks ≡ canonical (developed c.args.group c.args.v c.args.base.now) = grind arith in
    subst (λ rows. IsBibd rows c.args.v c.args.k c.args.l) (sym blocks) (develop_design c.args.group c.args.v c.args.k c.args.l c.args.base.now c.requires)
