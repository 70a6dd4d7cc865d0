use Rattle.std.proofs.Common.{◌≡◌, length, ◌-◌, ◌+◌}
use Rattle.std.specs.Io.KnownBytes.{Keeps, prepend_known}
use Rattle.design_base.specs.declared.limits.TheConstants.{LINE_MAX}
use Rattle.design_io.proofs.window.Window.fill_line.Given as goal

abbrev pub invariant-loop-place : goal.invariant-loop-place
invariant-loop-place g l = record {
  bytes : Keeps (prepend_known l.fn.self (g.S.Source.left l.fn.source)) (prepend_known l.self (g.S.Source.left l.source));
  faults : g.S.Source.faults l.source ≡ g.S.Source.faults l.fn.source;
}

abbrev pub decreases-loop-place : goal.decreases-loop-place
decreases-loop-place g l = LINE_MAX + 1 - length l.self
