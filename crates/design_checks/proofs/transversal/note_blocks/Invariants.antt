-- The bits that are set tell of the blocks so far.
use Rattle.std.proofs.Common.{take}
use Rattle.design_checks.specs.Bits.{Tells}
use Rattle.design_checks.proofs.transversal.note_blocks.Given as goal

abbrev pub invariant-loop-m : goal.invariant-loop-m
invariant-loop-m l = Tells l.words l.k l.n l.i (take l.m l.rows)
