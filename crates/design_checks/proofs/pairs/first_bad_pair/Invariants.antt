-- The points so far stand together as often as they are to.
use Rattle.std.proofs.Common.{ℕ, ◌+◌, ◌-◌, ◌<◌, ◌≤◌}
use Rattle.std.specs.Prelude.{vec_capacity}
use Rattle.design_base.specs.Blocks.{cover}
use Rattle.design_checks.specs.Counts.{Agree, want}
use Rattle.design_checks.proofs.pairs.first_bad_pair.Given as goal

abbrev pub invariant-loop-low : goal.invariant-loop-low
invariant-loop-low l = record {
  within : l.low ≤ l.v;
  room : vec_capacity l.fn.counts ≤ vec_capacity l.counts;
  before : (x : ℕ) → x < l.low → Agree (cover l.rows x) (want l.wanted x) (x + 1) l.v;
}

abbrev pub decreases-loop-low : goal.decreases-loop-low
decreases-loop-low l = l.v - l.low
