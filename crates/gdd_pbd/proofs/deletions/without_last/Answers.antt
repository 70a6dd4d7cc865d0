use Rattle.std.proofs.Common.{ap, arith, length, rules, subst, sym, ◌*◌}
use Rattle.std.specs.Prelude.{All}
use Rattle.gdd_pbd.proofs.DeletingNeeds.{last_design, last_few, last_groups, last_names, last_points, last_short, last_size}
use Rattle.gdd_pbd.proofs.deletions.without_last.Goals as goal
use Rattle.gdd_pbd.specs.Room.{HasNames}

pub through-requires-clause-few : goal.through-requires-clause-few
through-requires-clause-few c = last_short _ _ _ c.requires

pub through-requires-clause-size : goal.through-requires-clause-size
through-requires-clause-size c = last_size _ _ _ c.requires

pub named_rest-requires-clause-names : goal.named_rest-requires-clause-names
named_rest-requires-clause-names c = subst (λ G. All (HasNames c.args.g (c.args.g * c.args.u) G) c.args.design.now) (sym c.in_ok-groups.ensures) (last_names _ _ _ c.requires)

pub named_rest-requires-clause-groups : goal.named_rest-requires-clause-groups
named_rest-requires-clause-groups c = omega (arith, ap length c.in_ok-groups.ensures, last_groups _ _ _ c.requires, last_few _ _ _ c.requires)

pub named_rest-requires-clause-size : goal.named_rest-requires-clause-size
named_rest-requires-clause-size c = last_size _ _ _ c.requires

pub named_rest-requires-clause-points : goal.named_rest-requires-clause-points
named_rest-requires-clause-points c = last_points _ _ _ c.requires

pub returns-clause-design : goal.returns-clause-design
returns-clause-design c = last_design c.args.g c.args.u c.args.design.now c.requires c.in_ok-blocks.blocks (search rules)
