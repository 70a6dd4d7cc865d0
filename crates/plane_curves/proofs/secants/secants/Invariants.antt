-- The lines so far.
use Rattle.std.proofs.Common.{◌*◌, ◌+◌, ◌≡◌, ◌≤◌}
use Rattle.design_base.specs.Fields.{field_product, field_sum}
use Rattle.design_base.specs.declared.limits.TheConstants.{POINTS_MAX}
use Rattle.incidence.specs.Packed.{size_of}
use Rattle.plane_curves.specs.Secants.{secant}
use Rattle.spaces.specs.Least.{least_lines}
use Rattle.plane_curves.proofs.secants.secants.Given as goal

abbrev pub invariant-loop-j : goal.invariant-loop-j
invariant-loop-j l = record {
  listed : l.rows ≡ least_lines (secant (field_sum l.field) (field_product l.field) l.vectors) l.j;
  small : size_of l.rows ≤ l.j * (POINTS_MAX * (POINTS_MAX + 1));
}
