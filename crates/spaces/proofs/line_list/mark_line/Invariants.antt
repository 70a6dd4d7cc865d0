-- The points so far are marked with all.
use Rattle.std.proofs.Common.{length, take, ◌&&◌, ◌*◌, ◌<◌, ◌||◌, ◌≡◌, ℕ}
use Rattle.design_base.specs.Blocks.{holds}
use Rattle.design_base.specs.declared.limits.TheConstants.{POINTS_MAX}
use Rattle.spaces.specs.MetPairs.{entry}
use Rattle.spaces.proofs.line_list.mark_line.Given as goal

abbrev pub invariant-loop-x : goal.invariant-loop-x
invariant-loop-x l = record {
  size : length l.met ≡ POINTS_MAX * POINTS_MAX;
  marked : (z w : ℕ) → z < POINTS_MAX → w < POINTS_MAX → entry l.met z w ≡ (entry l.fn.met z w || (holds z (take l.x-index l.line) && holds w l.line));
}
