-- The symbols of the columns so far.
use Rattle.std.proofs.Common.{length, map, take, ◌%◌, ◌≡◌}
use Rattle.design_base.specs.declared.limits.TheConstants.{TD_K_MAX}
use Rattle.incidence.proofs.arrays.push_row_of.Given as goal

abbrev pub invariant-loop-j : goal.invariant-loop-j
invariant-loop-j l = record {
  size : length l.row ≡ TD_K_MAX;
  symbols : take l.j l.row ≡ map (λ x. x % l.n) (take l.j l.block);
}
