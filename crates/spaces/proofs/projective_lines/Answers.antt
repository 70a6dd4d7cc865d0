use Rattle.std.proofs.Common.{arith, subst, sym, ◌+◌, ◌∙◌}
use Rattle.design_base.specs.Blocks.{IsBibd}
use Rattle.spaces.proofs.Bounds.{order_small}
use Rattle.spaces.proofs.ListedLines.{projective_is_space, length-points_in, projective_is_design, projective_listed}
use Rattle.spaces.specs.GeometryLines.{IsProjective}
use Rattle.design_base.specs.Geometries.{point_count}
use Rattle.spaces.proofs.projective_lines.Goals as goal

pub lines-requires-clause-points : goal.lines-requires-clause-points
lines-requires-clause-points c = omega (arith, length-points_in c.in_ok-geometry.geometry c.args.field.now c.args.d c.in_ok-geometry.ensures, c.requires.in_bounds)

pub lines-requires-clause-coefficients : goal.lines-requires-clause-coefficients
lines-requires-clause-coefficients c =
    let h : IsProjective c.args.field.now (c.args.d + 1) c.in_ok-geometry.geometry = c.in_ok-geometry.ensures in
    omega (arith, h.coefficients.count, order_small c.args.field.now c.args.d c.requires.dimension, c.requires.in_bounds)

pub returns-clause-blocks : goal.returns-clause-blocks
returns-clause-blocks c = c.in_ok-lines.ensures ∙ projective_listed c.in_ok-geometry.geometry c.args.field.now c.args.d c.in_ok-geometry.ensures

pub returns-clause-design : goal.returns-clause-design
returns-clause-design c = subst (λ B. IsBibd B (point_count c.args.field.now c.args.d) (c.args.field.now + 1) 1) (sym c.in_ok-lines.ensures)
    (projective_is_design c.in_ok-geometry.geometry c.args.field.now c.args.d c.in_ok-geometry.ensures)

pub lines-requires-clause-space : goal.lines-requires-clause-space
lines-requires-clause-space c = projective_is_space c.in_ok-geometry.geometry c.args.field.now c.args.d c.in_ok-geometry.ensures
