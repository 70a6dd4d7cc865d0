-- The entries of the columns so far.
use Rattle.std.proofs.Common.{length, take, ◌≡◌}
use Rattle.design_base.specs.declared.limits.TheConstants.{TD_K_MAX}
use Rattle.wilson.proofs.filling.push_filled_row.Given as goal
use Rattle.wilson.specs.Truncations.{filled_row}

abbrev pub invariant-loop-j : goal.invariant-loop-j
invariant-loop-j l = record {
  size : length l.entries ≡ TD_K_MAX;
  entries : take l.j l.entries ≡ filled_row l.j l.m l.infinite l.master l.row;
}
