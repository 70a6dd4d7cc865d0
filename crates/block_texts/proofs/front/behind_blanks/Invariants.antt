use Rattle.std.proofs.Common.{◌≡◌, length}
use Rattle.block_texts.specs.Fronts.{behind_blanks}
use Rattle.block_texts.proofs.front.behind_blanks.Given as goal

abbrev pub invariant-loop-byte : goal.invariant-loop-byte
invariant-loop-byte l = behind_blanks l.text ≡ behind_blanks l.rest

abbrev pub decreases-loop-byte : goal.decreases-loop-byte
decreases-loop-byte l = length l.rest
