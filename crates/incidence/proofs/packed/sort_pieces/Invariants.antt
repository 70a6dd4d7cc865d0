-- The rows before the next one are sorted, and the others are as they were.
use Rattle.incidence.proofs.Pieces.{IsSortedBefore}
use Rattle.incidence.proofs.packed.sort_pieces.Given as goal

abbrev pub invariant-loop-next : goal.invariant-loop-next
invariant-loop-next l = IsSortedBefore l.ends l.fn.numbers l.numbers l.next-index l.start
