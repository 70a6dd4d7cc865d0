-- The halvings that are left.
use Rattle.three_designs.proofs.quadruples.+blocks_within.Given as goal

abbrev pub decreases-blocks_within : goal.decreases-blocks_within
decreases-blocks_within l = l.halvings
