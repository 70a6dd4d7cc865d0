-- The points so far.
use Rattle.std.proofs.Common.{◌≡◌}
use Rattle.design_base.specs.Fields.{field_product, field_sum}
use Rattle.plane_curves.specs.Curves.{is_power_zero}
use Rattle.plane_curves.specs.Secants.{curve_points}
use Rattle.plane_curves.proofs.curves.power_points.Given as goal

abbrev pub invariant-loop-z : goal.invariant-loop-z
invariant-loop-z l = l.points.items ≡ curve_points l.field (is_power_zero (field_sum l.field) (field_product l.field) l.field l.n) l.z
