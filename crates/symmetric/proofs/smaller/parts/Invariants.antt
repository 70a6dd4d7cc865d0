-- The parts of the blocks before.
use Rattle.std.proofs.Common.{length, ◌*◌, ◌+◌, ◌≡◌, ◌≤◌}
use Rattle.incidence.specs.Packed.{size_of}
use Rattle.symmetric.proofs.Steps.{parts_before}
use Rattle.symmetric.proofs.smaller.parts.Given as goal

abbrev pub invariant-loop-j : goal.invariant-loop-j
invariant-loop-j l = record {
  listed : l.parts ≡ parts_before l.j l.points l.rows l.i;
  small : size_of l.parts ≤ (length l.points + 1) * l.j;
}
