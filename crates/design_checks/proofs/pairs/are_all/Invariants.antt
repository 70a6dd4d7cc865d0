-- None of the counts so far is another exactly where all of them are the one wanted.
use Rattle.std.proofs.Common.{get_or, ◌+◌, ◌≡◌, ◌≤◌}
use Rattle.std.specs.Prelude.{◌↔◌}
use Rattle.design_checks.specs.Counts.{Agree}
use Rattle.design_checks.proofs.pairs.are_all.Given as goal

abbrev pub invariant-loop-i : goal.invariant-loop-i
invariant-loop-i l = record {
  few : l.others + l.from ≤ l.i;
  none : (l.others ≡ 0) ↔ Agree (λ k. get_or l.counts k 0) (λ k. l.wanted) l.from l.i;
}
