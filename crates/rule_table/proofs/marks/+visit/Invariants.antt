use Rattle.std.proofs.Common.{◌≡◌}
use Rattle.rule_terms.specs.Rank.{rank}
use Rattle.rule_table.specs.Told.{KeptAfter}
use Rattle.rule_table.proofs.Visiting.{Visiting}
use Rattle.rule_table.proofs.marks.+visit.Given as goal

abbrev pub decreases-visit : goal.decreases-visit
decreases-visit g l = rank l.q.now

abbrev pub invariant-turns : goal.invariant-turns
invariant-turns g l = record {
  visiting : Visiting l.q l.fn.marks l.inquiry l.marks;
  memo : g.A.Asker.memo l.asker ≡ g.A.Asker.memo l.fn.asker;
  told : KeptAfter l.q (g.A.Asker.told l.fn.asker) (g.A.Asker.told l.asker) l.fn.steps l.steps;
}

abbrev pub decreases-turns : goal.decreases-turns
decreases-turns g l = l.inquiry.left
