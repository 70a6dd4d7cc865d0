-- The bits of the points so far are set.
use Rattle.std.proofs.Common.{get_or, ℕ, ◌*◌, ◌+◌, ◌<◌, ◌≡◌}
use Rattle.std.specs.Int.{bit_at}
use Rattle.design_checks.specs.declared.transversal.TheConstants.{GROUPS}
use Rattle.design_checks.proofs.transversal.are_set.Given as goal

abbrev pub invariant-loop-a : goal.invariant-loop-a
invariant-loop-a l = (a j b : ℕ) → a < l.a → l.fn.i < j → j < l.k → b < l.n → bit_at (get_or l.words (a * GROUPS + j) 0) b ≡ 1
