-- The points so far are of their groups.
use Rattle.std.proofs.Common.{get_or, ℕ, ◌*◌, ◌+◌, ◌<◌, ◌≤◌}
use Rattle.design_checks.proofs.transversal.is_across.Given as goal

abbrev pub invariant-loop-j : goal.invariant-loop-j
invariant-loop-j l = (i : ℕ) → i < l.j → (i * l.n ≤ get_or l.block i 0) × (get_or l.block i 0 < i * l.n + l.n)
