-- The rows so far, without the two.
use Rattle.std.proofs.Common.{◌*◌, ◌+◌, ◌≡◌, ◌≤◌}
use Rattle.design_base.specs.declared.limits.TheConstants.{TD_K_MAX}
use Rattle.incidence.specs.Packed.{size_of}
use Rattle.wilson.proofs.Steps.{others_renumbered}
use Rattle.wilson.proofs.holes.without_two.Given as goal

abbrev pub invariant-loop-i : goal.invariant-loop-i
invariant-loop-i l = record {
  some : 1 ≤ l.i;
  rows : l.rows ≡ others_renumbered l.k l.m l.e l.array l.i;
  size : size_of l.rows ≤ (TD_K_MAX + 1) * l.i;
}
