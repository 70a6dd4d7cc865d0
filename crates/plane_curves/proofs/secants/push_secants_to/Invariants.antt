-- The lines of the vectors before.
use Rattle.std.proofs.Common.{◌*◌, ◌++◌, ◌+◌, ◌≡◌, ◌≤◌}
use Rattle.design_base.specs.Fields.{field_product, field_sum}
use Rattle.design_base.specs.declared.limits.TheConstants.{POINTS_MAX}
use Rattle.incidence.specs.Packed.{size_of}
use Rattle.plane_curves.specs.Secants.{secant}
use Rattle.spaces.specs.Least.{lines_to}
use Rattle.plane_curves.proofs.secants.push_secants_to.Given as goal

abbrev pub invariant-loop-i : goal.invariant-loop-i
invariant-loop-i l = record {
  listed : l.rows ≡ l.initial.rows ++ lines_to (secant (field_sum l.field) (field_product l.field) l.vectors) l.j l.i;
  small : size_of l.rows ≤ size_of l.initial.rows + l.i * (POINTS_MAX + 1);
}
