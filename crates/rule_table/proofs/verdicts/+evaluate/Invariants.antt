use Rattle.std.proofs.Common.{◌≡◌, ◌+◌}
use Rattle.std.specs.Prelude.{sum_by}
use Rattle.rule_terms.specs.Rank.{rank}
use Rattle.rule_table.specs.Work.{work}
use Rattle.rule_table.proofs.verdicts.+evaluate.Given as goal

abbrev pub decreases-evaluate : goal.decreases-evaluate
decreases-evaluate g l = rank l.q.now

abbrev pub invariant-turns : goal.invariant-turns
invariant-turns g l = (l.evaluation.question ≡ l.q) × (l.steps ≡ l.fn.steps + 1 + sum_by work l.evaluation.answered)

abbrev pub decreases-turns : goal.decreases-turns
decreases-turns g l = l.evaluation.left
