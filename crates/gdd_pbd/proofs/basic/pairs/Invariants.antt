-- The pairs so far.
use Rattle.std.proofs.Common.{◌*◌, ◌≡◌, ◌≤◌}
use Rattle.incidence.specs.Packed.{size_of}
use Rattle.design_base.specs.declared.limits.TheConstants.{POINTS_MAX}
use Rattle.gdd_pbd.specs.Basic.{pair_blocks}
use Rattle.gdd_pbd.proofs.basic.pairs.Given as goal

abbrev pub invariant-loop-i : goal.invariant-loop-i
invariant-loop-i l = record {
  rows : l.rows ≡ pair_blocks l.v l.i;
  size : size_of l.rows ≤ 3 * (POINTS_MAX * POINTS_MAX) * l.i;
}
