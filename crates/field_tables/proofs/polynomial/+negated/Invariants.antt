use Rattle.std.proofs.Common.{length}
use Rattle.field_tables.proofs.polynomial.+negated.Given as goal

abbrev pub decreases-negated : goal.decreases-negated
decreases-negated l = length l.lower.now
