-- The places so far.
use Rattle.std.proofs.Common.{◌≡◌}
use Rattle.design_base.specs.Fields.{field_product, field_sum}
use Rattle.plane_curves.specs.Secants.{secant_below}
use Rattle.plane_curves.proofs.secants.secant.Given as goal

abbrev pub invariant-loop-m : goal.invariant-loop-m
invariant-loop-m l = l.row.items ≡ secant_below (field_sum l.field) (field_product l.field) l.vectors l.i l.j l.m
