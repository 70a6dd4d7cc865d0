use Rattle.std.proofs.Common.{◌≡◌, ℕ, List, drop, ◌+◌}
use Rattle.derivations.specs.Marks.{Marks}
use Rattle.derivations.specs.Derivations.{fault, fault_from}
use Rattle.derivations.proofs.faults.fault_among.Given as goal

abbrev pub invariant-loop-i : goal.invariant-loop-i
invariant-loop-i l = record {
  named : List ℕ;
  marked : Marks named l.marks;
  rest : fault l.lines ≡ fault_from l.lines (l.i + 1) named (drop l.i l.lines);
}
