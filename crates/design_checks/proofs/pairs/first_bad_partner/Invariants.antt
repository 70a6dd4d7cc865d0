-- The counts so far are the ones wanted.
use Rattle.std.proofs.Common.{get_or, ◌+◌}
use Rattle.design_checks.specs.Counts.{Agree, want}
use Rattle.design_checks.proofs.pairs.first_bad_partner.Given as goal

abbrev pub invariant-loop-y : goal.invariant-loop-y
invariant-loop-y l = Agree (λ y. get_or l.counts (l.base + y) 0) (want l.fn.wanted l.x) (l.x + 1) l.y
