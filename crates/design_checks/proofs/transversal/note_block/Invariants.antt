-- The bits that are set tell of the blocks before and of this one.
use Rattle.std.proofs.Common.{List, [], ℕ, ◌++◌, ◌∷◌}
use Rattle.design_checks.specs.Bits.{Tells}
use Rattle.design_checks.proofs.transversal.note_block.Given as goal

abbrev pub invariant-loop-j : goal.invariant-loop-j
invariant-loop-j l = (B : List (List ℕ)) → Tells l.fn.words l.k l.n l.fn.i B → Tells l.words l.k l.n l.fn.i (B ++ l.block ∷ [])
