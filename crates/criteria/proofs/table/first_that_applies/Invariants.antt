use Rattle.std.proofs.Common.{drop, ◌≡◌}
use Rattle.std.specs.Prelude.{find}
use Rattle.criteria.proofs.table.first_that_applies.Given as goal

abbrev pub invariant-loop-row : goal.invariant-loop-row
invariant-loop-row l = find (λ r. r.applies) (drop l.row-index l.table) ≡ find (λ r. r.applies) l.table
