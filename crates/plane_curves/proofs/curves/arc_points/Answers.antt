use Rattle.std.proofs.Common.{sym, ◌∙◌}
use Rattle.design_base.specs.Fields.{field_product, field_sum}
use Rattle.plane_curves.specs.Curves.{is_on_arc}
use Rattle.plane_curves.proofs.CurveSteps.{arc-taken, curve_points-off}
use Rattle.plane_curves.proofs.curves.arc_points.Goals as goal
use Rattle.plane_curves.proofs.curves.arc_points.Goals.{then-is_arc_point+in_ok-push, else-is_arc_point}

pub loop-z-preserved : goal.loop-z-preserved
loop-z-preserved c =
    let q = c.args.field.now in
    let add = field_sum q in
    let mul = field_product q in
    let k = c.least_rootless-c.result in
    elim c.if-is_arc_point.branch [
      | then-is_arc_point+in_ok-push w ↦ cc (arc-taken q add mul k c.args.bound c.loop-z.z (sym c.is_arc_point.ensures ∙ w.if-is_arc_point.true), c.loop-z.invariant, w.in_ok-push.ensures.items, w.entries.ensures.value, w.points-is)
      | else-is_arc_point w ↦ cc (curve_points-off q (is_on_arc add mul q k c.args.bound) c.loop-z.z (sym c.is_arc_point.ensures ∙ w.if-is_arc_point.false), c.loop-z.invariant, w.points-is)
    ]
