-- The symbols of the columns so far.
use Rattle.std.proofs.Common.{length, take, ◌≡◌}
use Rattle.design_base.specs.declared.limits.TheConstants.{TD_K_MAX}
use Rattle.wilson.proofs.holes.push_renumbered.Given as goal
use Rattle.wilson.specs.Holes.{renumbered_row}

abbrev pub invariant-loop-j : goal.invariant-loop-j
invariant-loop-j l = record {
  size : length l.entries ≡ TD_K_MAX;
  symbols : take l.j l.entries ≡ renumbered_row l.j l.m l.first l.row;
}
