use Rattle.std.proofs.Common.{◌≡◌, ◌+◌, Some}
use Rattle.rule_terms.specs.Rank.{rank}
use Rattle.rule_table.specs.Told.{KeptAfter}
use Rattle.memo_cells.specs.Knowledge.{KnowsAll}
use Rattle.memo_cells.proofs.deciding.+decide.Given as goal

abbrev pub decreases-decide : goal.decreases-decide
decreases-decide g l = rank l.q.now

abbrev pub invariant-turns : goal.invariant-turns
invariant-turns g l = record {
  question : l.evaluation.question ≡ l.q;
  memo : l.pass.memo ≡ l.fn.pass.memo;
  kept : KeptAfter l.q (Some l.fn.pass.knowledge.known) (Some l.pass.knowledge.known) (l.fn.steps + 1) l.steps;
  knows : KnowsAll l.pass.knowledge.known l.evaluation.answered;
}

abbrev pub decreases-turns : goal.decreases-turns
decreases-turns g l = l.evaluation.left
