use Rattle.std.proofs.Common.{sym, ◌∙◌}
use Rattle.design_base.specs.Fields.{field_product, field_sum}
use Rattle.plane_curves.specs.Curves.{is_power_zero}
use Rattle.plane_curves.proofs.CurveSteps.{point-left, point-taken}
use Rattle.plane_curves.proofs.curves.power_points.Goals as goal
use Rattle.plane_curves.proofs.curves.power_points.Goals.{then-is_power_point+in_ok-push, else-is_power_point}

pub loop-z-preserved : goal.loop-z-preserved
loop-z-preserved c =
    let q = c.args.field.now in
    let curve = is_power_zero (field_sum q) (field_product q) q c.args.n in
    elim c.if-is_power_point.branch [
      | then-is_power_point+in_ok-push w ↦ cc (point-taken q curve c.loop-z.z (sym c.is_power_point.ensures ∙ w.if-is_power_point.true), c.loop-z.invariant, w.in_ok-push.ensures.items, w.entries.ensures.value, w.points-is)
      | else-is_power_point w ↦ cc (point-left q curve c.loop-z.z (sym c.is_power_point.ensures ∙ w.if-is_power_point.false), c.loop-z.invariant, w.points-is)
    ]
