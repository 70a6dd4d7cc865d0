-- What is there and the blocks over those to come.
use Rattle.std.proofs.Common.{length, ◌*◌}
use Rattle.incidence.proofs.Appended.{Extends}
use Rattle.gdd_pbd.proofs.weightings.push_weighted.Given as goal
use Rattle.gdd_pbd.specs.Room.{CanReplace, most_size}
use Rattle.gdd_pbd.specs.Weighting.{chosen, weighted}

abbrev pub invariant-loop-block : goal.invariant-loop-block
invariant-loop-block l = Extends (weighted l.w (chosen l.s l.small l.large)) (λ B. most_size * length B) (CanReplace l.w l.s l.small l.large) l.fn.rows l.master l.rows l.block-iterator
