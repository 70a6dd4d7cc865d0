use Rattle.spaces.proofs.vectors.+combination.Given as goal

abbrev pub decreases-combination : goal.decreases-combination
decreases-combination l = l.n
