-- The entries so far.
use Rattle.std.proofs.Common.{◌≡◌}
use Rattle.std.specs.Prelude.{is_some}
use Rattle.counting.specs.Sums.{list_below}
use Rattle.three_designs.specs.Arrays.{cube_entry}
use Rattle.three_designs.proofs.arrays.cube_row.Given as goal

abbrev pub invariant-loop-j : goal.invariant-loop-j
invariant-loop-j l = l.row.items ≡ list_below l.j (cube_entry (is_some l.field) l.n l.x l.y l.z)
