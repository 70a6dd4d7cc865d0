-- x is marked with the points so far.
use Rattle.std.proofs.Common.{length, take, ◌&&◌, ◌*◌, ◌<◌, ◌==◌, ◌||◌, ◌≡◌, ℕ}
use Rattle.design_base.specs.Blocks.{holds}
use Rattle.design_base.specs.declared.limits.TheConstants.{POINTS_MAX}
use Rattle.spaces.specs.MetPairs.{entry}
use Rattle.spaces.proofs.line_list.mark_point.Given as goal

abbrev pub invariant-loop-y : goal.invariant-loop-y
invariant-loop-y l = record {
  size : length l.met ≡ POINTS_MAX * POINTS_MAX;
  marked : (z w : ℕ) → z < POINTS_MAX → w < POINTS_MAX → entry l.met z w ≡ (entry l.fn.met z w || ((z == l.x) && holds w (take l.y-index l.line)));
}
