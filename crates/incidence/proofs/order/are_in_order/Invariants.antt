use Rattle.std.specs.List.Sorted.{IsSortedWithin}
use Rattle.std.specs.Ordering.{is_lt}
use Rattle.std.specs.Cmp.Lexicographic.{slice_cmp}
use Rattle.std.specs.Ordering.{nat_cmp}
use Rattle.incidence.proofs.order.are_in_order.Given as goal

abbrev pub invariant-loop-i : goal.invariant-loop-i
invariant-loop-i l = IsSortedWithin (λ x y. is_lt (slice_cmp nat_cmp x y)) l.rows 0 l.i
