-- The pairs so far.
use Rattle.std.proofs.Common.{◌*◌, ◌++◌, ◌+◌, ◌≡◌, ◌≤◌}
use Rattle.incidence.specs.Packed.{size_of}
use Rattle.design_base.specs.declared.limits.TheConstants.{POINTS_MAX}
use Rattle.gdd_pbd.specs.Basic.{pairs_once}
use Rattle.gdd_pbd.proofs.basic.push_pairs.Given as goal

abbrev pub invariant-loop-y : goal.invariant-loop-y
invariant-loop-y l = record {
  rows : l.rows ≡ l.fn.rows ++ pairs_once l.y;
  size : size_of l.rows ≤ size_of l.fn.rows + 3 * (POINTS_MAX * l.y);
}
