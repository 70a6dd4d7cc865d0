use Rattle.std.proofs.Common.{◌≡◌, ◌+◌}
use Rattle.rule_terms.specs.Rank.{rank}
use Rattle.rule_table.specs.Told.{Grows, IsCounted}
use Rattle.rule_table.proofs.notes.+note.Given as goal

abbrev pub decreases-note : goal.decreases-note
decreases-note g l = rank l.q.now

abbrev pub invariant-turns : goal.invariant-turns
invariant-turns g l = record {
  question : l.evaluation.question ≡ l.q;
  grows : Grows l.q l.fn.notes l.notes;
  counted : IsCounted l.fn.notes l.notes (l.fn.steps + 1) l.steps;
}

abbrev pub decreases-turns : goal.decreases-turns
decreases-turns g l = l.evaluation.left
