use Rattle.std.proofs.Common.{rules, subst, sym, ◌≡◌}
use Rattle.design_base.specs.Blocks.{IsBibd}
use Rattle.design_base.specs.Canonical.{canonical}
use Rattle.triple_systems.proofs.OneGroup.{ordered_design}
use Rattle.triple_systems.specs.Squares.{idempotent}
use Rattle.triple_systems.specs.OneGroup.{ordered_blocks}
use Rattle.triple_systems.specs.declared.triples.Pairs.TheVariants.{Ordered}
use Rattle.triple_systems.specs.Triples.{triples_above}
use Rattle.triple_systems.proofs.systems.ordered.Goals as goal

pub returns-clause-design : goal.returns-clause-design
unfolding ordered_blocks
returns-clause-design c =
    let e : c.in_ok-blocks.blocks ≡ canonical (triples_above Ordered c.args.v (idempotent c.args.v) 0 0 c.args.v) = search rules in
    subst (λ B. IsBibd B c.args.v 3 6) (sym e) (ordered_design c.args.v c.requires.in_bounds.0)
