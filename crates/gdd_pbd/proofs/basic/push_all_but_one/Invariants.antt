-- The blocks so far.
use Rattle.std.proofs.Common.{◌*◌, ◌++◌, ◌+◌, ◌≡◌, ◌≤◌}
use Rattle.incidence.specs.Packed.{size_of}
use Rattle.design_base.specs.declared.limits.TheConstants.{POINTS_MAX}
use Rattle.gdd_pbd.specs.Basic.{all_but_one}
use Rattle.gdd_pbd.proofs.basic.push_all_but_one.Given as goal

abbrev pub invariant-loop-z : goal.invariant-loop-z
invariant-loop-z l = record {
  rows : l.rows ≡ l.fn.rows ++ all_but_one l.v l.z;
  size : size_of l.rows ≤ size_of l.fn.rows + (POINTS_MAX + 1) * l.z;
}
