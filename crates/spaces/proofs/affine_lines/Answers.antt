use Rattle.std.proofs.Common.{arith, subst, sym, ◌^◌, ◌∙◌}
use Rattle.design_base.specs.Blocks.{IsBibd}
use Rattle.field_tables.proofs.Listed.{order_above}
use Rattle.spaces.proofs.Bounds.{order_below}
use Rattle.spaces.proofs.ListedLines.{affine_is_space, affine_is_design, affine_listed}
use Rattle.spaces.specs.GeometryLines.{IsAffine}
use Rattle.spaces.proofs.affine_lines.Goals as goal

pub lines-requires-clause-coefficients : goal.lines-requires-clause-coefficients
lines-requires-clause-coefficients c =
    let h : IsAffine c.args.field.now c.args.d c.in_ok-geometry.geometry = c.in_ok-geometry.ensures in
    omega (arith, h.coefficients.count, order_below c.args.field.now c.args.d (order_above c.args.field.now h.listed) c.requires.dimension)

pub returns-clause-blocks : goal.returns-clause-blocks
returns-clause-blocks c = c.in_ok-lines.ensures ∙ affine_listed c.in_ok-geometry.geometry c.args.field.now c.args.d c.in_ok-geometry.ensures

pub returns-clause-design : goal.returns-clause-design
returns-clause-design c = subst (λ B. IsBibd B (c.args.field.now ^ c.args.d) c.args.field.now 1) (sym c.in_ok-lines.ensures)
    (affine_is_design c.in_ok-geometry.geometry c.args.field.now c.args.d c.in_ok-geometry.ensures)

pub lines-requires-clause-space : goal.lines-requires-clause-space
lines-requires-clause-space c = affine_is_space c.in_ok-geometry.geometry c.args.field.now c.args.d c.in_ok-geometry.ensures
