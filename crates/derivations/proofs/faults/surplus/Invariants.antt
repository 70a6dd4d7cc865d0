use Rattle.std.proofs.Common.{◌≡◌, ℕ, List, drop, ◌-◌}
use Rattle.derivations.specs.Marks.{Marks}
use Rattle.derivations.specs.Derivations.{surplus_from}
use Rattle.derivations.proofs.faults.surplus.Given as goal

abbrev pub invariant-loop-number : goal.invariant-loop-number
invariant-loop-number l = (named : List ℕ) → Marks named l.marks → surplus_from 1 named l.lines ≡ surplus_from l.number named (drop (l.number - 1) l.lines)
