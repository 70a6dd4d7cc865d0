use Rattle.std.proofs.Common.{length}
use Rattle.block_texts.proofs.Walks.{GoesOn}
use Rattle.block_texts.proofs.walk.read_row.Given as goal

abbrev pub invariant-loop-next : goal.invariant-loop-next
invariant-loop-next l = GoesOn l.text l.row.items l.rest

abbrev pub decreases-loop-next : goal.decreases-loop-next
decreases-loop-next l = length l.rest
