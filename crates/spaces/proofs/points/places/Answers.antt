use Rattle.std.proofs.Common.{arith, subst, ◌≡◌}
use Rattle.design_base.specs.Fields.{field_product}
use Rattle.spaces.specs.Points.{ArePlaces}
use Rattle.spaces.proofs.points.places.Goals as goal

pub returns : goal.returns
returns c =
    let q = c.args.field.now in
    let last : c.loop-x.x ≡ c.args.vectors = omega arith in
    subst (λ x. ArePlaces (field_product q) q c.args.n x c.loop-x.places.items) last c.loop-x.invariant
