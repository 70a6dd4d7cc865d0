use Rattle.std.proofs.Common.{length}
use Rattle.rule_table.proofs.allowed.+allowed_premises.Given as goal

abbrev pub decreases-allowed_premises : goal.decreases-allowed_premises
decreases-allowed_premises l = length l.rest.now
