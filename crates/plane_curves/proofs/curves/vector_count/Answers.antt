use Rattle.std.proofs.Common.{subst, sym, ◌<◌, ◌^◌, ◌∙◌}
use Rattle.plane_curves.proofs.CurveSteps.{cube_fits}
use Rattle.plane_curves.proofs.curves.vector_count.Goals as goal

pub pow-requires : goal.pow-requires
pow-requires c = subst (λ q. q ^ 3 < 2 ^ 32) (sym (c.from.ensures ∙ c.order.ensures.order)) (cube_fits c.args.field.now c.order.ensures.listed)
