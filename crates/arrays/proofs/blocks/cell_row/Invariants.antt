-- The symbols so far.
use Rattle.std.proofs.Common.{◌≡◌}
use Rattle.arrays.specs.Arrays.{row_of_cell}
use Rattle.arrays.proofs.blocks.cell_row.Given as goal

abbrev pub invariant-loop-s : goal.invariant-loop-s
invariant-loop-s l = l.row.items ≡ row_of_cell l.s l.n l.squares l.x l.y
