-- The points so far are counted.
use Rattle.std.proofs.Common.{get_or, take, ℕ, ◌+◌, ◌==◌, ◌≡◌}
use Rattle.std.specs.List.{count_by}
use Rattle.design_checks.proofs.counts.count_points.Given as goal

abbrev pub invariant-loop-y : goal.invariant-loop-y
invariant-loop-y l = (p : ℕ) → get_or l.counts p 0 ≡ get_or l.fn.counts p 0 + count_by (λ y. l.base + y == p) (take l.y-index l.points)
