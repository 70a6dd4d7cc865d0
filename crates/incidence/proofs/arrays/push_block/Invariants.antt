-- The points of the columns so far.
use Rattle.std.proofs.Common.{length, slice_index, take, ◌≡◌}
use Rattle.design_base.specs.Arrays.{row_block}
use Rattle.design_base.specs.declared.limits.TheConstants.{TD_K_MAX}
use Rattle.incidence.proofs.arrays.push_block.Given as goal

abbrev pub invariant-loop-j : goal.invariant-loop-j
invariant-loop-j l = record {
  size : length l.block ≡ TD_K_MAX;
  points : take l.j l.block ≡ row_block l.j l.n (slice_index l.row);
}
