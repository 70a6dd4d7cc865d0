-- The symbols so far.
use Rattle.std.proofs.Common.{[], get_or, take, ◌*◌, ◌+◌, ◌≡◌}
use Rattle.counting.specs.Sums.{list_below}
use Rattle.arrays.proofs.rows.write_row.Given as goal

abbrev pub invariant-loop-y : goal.invariant-loop-y
invariant-loop-y l = take l.y l.row ≡ list_below l.y (λ y. get_or (get_or l.rows (l.x * l.n + y) []) l.j 0)
