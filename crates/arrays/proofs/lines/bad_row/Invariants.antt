-- The lines so far are rows.
use Rattle.std.proofs.Common.{◌≡◌, ℕ, ◌<◌, [], true, get_or}
use Rattle.arrays.specs.Lines.{is_row}
use Rattle.arrays.proofs.lines.bad_row.Given as goal

abbrev pub invariant-loop-i : goal.invariant-loop-i
invariant-loop-i l = (j : ℕ) → j < l.i → is_row l.k l.n (get_or l.lines j []) ≡ true
