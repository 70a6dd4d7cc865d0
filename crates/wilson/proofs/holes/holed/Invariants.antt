-- The rows so far, without the first one.
use Rattle.std.proofs.Common.{take, ◌*◌, ◌+◌, ◌≡◌, ◌≤◌}
use Rattle.design_base.specs.declared.limits.TheConstants.{TD_K_MAX}
use Rattle.incidence.specs.Packed.{size_of}
use Rattle.wilson.proofs.holes.holed.Given as goal
use Rattle.wilson.specs.Holes.{holed}

abbrev pub invariant-loop-i : goal.invariant-loop-i
invariant-loop-i l = record {
  some : 1 ≤ l.i;
  rows : l.rows ≡ holed l.k l.m (take l.i l.array);
  size : size_of l.rows ≤ (TD_K_MAX + 1) * l.i;
}
