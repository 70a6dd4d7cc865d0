-- The counts of the points so far are the ones wanted.
use Rattle.std.proofs.Common.{get_or, ℕ, ◌+◌, ◌<◌, ◌≤◌}
use Rattle.design_checks.specs.Counts.{Agree, cell, want}
use Rattle.design_checks.proofs.pairs.first_bad_count.Given as goal

abbrev pub invariant-loop-x : goal.invariant-loop-x
invariant-loop-x l = (x : ℕ) → l.low ≤ x → x < l.x → Agree (λ y. get_or l.counts (cell l.v l.low x y) 0) (want l.wanted x) (x + 1) l.v
