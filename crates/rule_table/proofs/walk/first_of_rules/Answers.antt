use Rattle.rule_table.proofs.Firsts.{rules_found}
use Rattle.rule_table.proofs.walk.first_of_rules.Goals as goal

pub returns-in-Some : goal.returns-in-Some
returns-in-Some c = rules_found c.args.q.now c.loop-i.i _ _ c.loop-i.invariant c.rule_at.ensures _ c.in-Some.ensures
