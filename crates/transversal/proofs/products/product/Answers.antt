use Rattle.std.proofs.Common.{ap, arith, subst, sym, ◌*◌}
use Rattle.design_base.specs.Blocks.{IsTd}
use Rattle.incidence.specs.Packed.{size_of}
use Rattle.transversal.proofs.Designs.{product_design, product_fits}
use Rattle.transversal.proofs.Steps.{steps}
use Rattle.transversal.proofs.products.product.Goals as goal

pub push_products-requires-clause-room : goal.push_products-requires-clause-room
push_products-requires-clause-room c = omega (
  arith,
  ap size_of c.in_ok-rows.ensures,
  product_fits c.args.k c.args.a c.args.b c.in_ok-first.first c.in_ok-second.second c.requires.groups c.requires.second_points c.requires.points c.in_ok-first.ensures.array c.in_ok-second.ensures.array,
)

pub returns-clause-blocks : goal.returns-clause-blocks
returns-clause-blocks c = grind (arith, steps)

pub returns-clause-design : goal.returns-clause-design
returns-clause-design c = subst (λ B. IsTd B c.args.k (c.args.a * c.args.b)) (sym (returns-clause-blocks c)) (product_design c.args.k c.args.a c.args.b c.args.first.now c.args.second.now c.requires)
