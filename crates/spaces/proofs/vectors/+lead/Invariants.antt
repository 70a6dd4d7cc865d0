use Rattle.spaces.proofs.vectors.+lead.Given as goal

abbrev pub decreases-lead : goal.decreases-lead
decreases-lead l = l.n
