-- The halvings that are left.
use Rattle.three_designs.proofs.quadruples.+verdict_within.Given as goal

abbrev pub decreases-verdict_within : goal.decreases-verdict_within
decreases-verdict_within l = l.halvings
