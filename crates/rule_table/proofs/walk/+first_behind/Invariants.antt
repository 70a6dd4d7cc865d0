use Rattle.std.proofs.Common.{length}
use Rattle.rule_table.proofs.walk.+first_behind.Given as goal

abbrev pub decreases-first_behind : goal.decreases-first_behind
decreases-first_behind l = length l.rest.now
