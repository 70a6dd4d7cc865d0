use Rattle.std.proofs.Common.{◌≡◌}
use Rattle.rule_terms.specs.Rank.{rank}
use Rattle.rule_table.specs.Told.{KeptAfter}
use Rattle.derivations.proofs.Parts.{Unfolding}
use Rattle.derivations.proofs.unfolding.+unfold.Given as goal

abbrev pub decreases-unfold : goal.decreases-unfold
decreases-unfold g l = rank l.q.now

abbrev pub invariant-loop-premise : goal.invariant-loop-premise
invariant-loop-premise g l = record {
  unfolds : Unfolding l.fn.lines l.asked l.premise-index l.lines l.from;
  memo : g.A.Asker.memo l.asker ≡ g.A.Asker.memo l.fn.asker;
  told : KeptAfter l.q (g.A.Asker.told l.fn.asker) (g.A.Asker.told l.asker) l.fn.steps l.steps;
}
