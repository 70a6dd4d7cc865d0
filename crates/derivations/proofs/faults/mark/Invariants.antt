use Rattle.std.proofs.Common.{ℕ, List}
use Rattle.derivations.specs.Marks.{Marks}
use Rattle.derivations.proofs.Marking.{Marking}
use Rattle.derivations.proofs.faults.mark.Given as goal

abbrev pub invariant-loop-number : goal.invariant-loop-number
invariant-loop-number l = (named : List ℕ) → Marks named l.initial.marks → Marking named l.from l.number-index l.marks
