use Rattle.std.proofs.Common.{ap, arith, length, ◌+◌}
use Rattle.field_tables.proofs.Listed.{order_above}
use Rattle.spaces.proofs.Leads.{length-points}
use Rattle.spaces.specs.Points.{points}
use Rattle.spaces.proofs.geometry.Geometry.projective.Goals as goal

pub multiples-requires-clause-points : goal.multiples-requires-clause-points
multiples-requires-clause-points c =
    let q = c.args.field.now in
    omega (
      arith,
      ap length c.deref.ensures.value,
      ap length c.in_ok-points.ensures,
      ap (λ q. length (points q (c.args.d + 1))) c.order-q.ensures.order,
      length-points q (order_above q c.order-q.ensures.listed) c.args.d,
      c.requires.in_bounds,
    )

pub invariant_of-result-clause-few : goal.invariant_of-result-clause-few
invariant_of-result-clause-few c =
    let q = c.args.field.now in
    omega (
      arith,
      ap length c.in_ok-points.ensures,
      ap (λ q. length (points q (c.args.d + 1))) c.order-q.ensures.order,
      length-points q (order_above q c.order-q.ensures.listed) c.args.d,
      c.requires.in_bounds,
    )
