-- The rows so far are packed.
use Rattle.std.proofs.Common.{map, take, ◌≡◌}
use Rattle.symmetric.proofs.tests.packed.Given as goal

abbrev pub invariant-loop-row : goal.invariant-loop-row
invariant-loop-row l = l.rows ≡ map (λ row. row.now) (take l.row-index l.list)
