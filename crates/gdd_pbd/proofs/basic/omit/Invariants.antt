-- The blocks so far.
use Rattle.std.proofs.Common.{◌*◌, ◌+◌, ◌≡◌, ◌≤◌}
use Rattle.incidence.specs.Packed.{size_of}
use Rattle.design_base.specs.declared.limits.TheConstants.{POINTS_MAX}
use Rattle.gdd_pbd.specs.Basic.{omitted}
use Rattle.gdd_pbd.proofs.basic.omit.Given as goal

abbrev pub invariant-loop-i : goal.invariant-loop-i
invariant-loop-i l = record {
  rows : l.rows ≡ omitted l.v l.i;
  size : size_of l.rows ≤ (POINTS_MAX + 1) * POINTS_MAX * l.i;
}
