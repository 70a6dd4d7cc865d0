-- The blocks so far are such blocks.
use Rattle.std.proofs.Common.{List, get_or, ℕ, ◌<◌}
use Rattle.design_checks.specs.Bits.{IsAcross}
use Rattle.design_checks.proofs.transversal.are_across.Given as goal

abbrev pub invariant-loop-i : goal.invariant-loop-i
invariant-loop-i l = (m : ℕ) (d : List ℕ) → m < l.i → IsAcross l.k l.n (get_or l.rows m d)
