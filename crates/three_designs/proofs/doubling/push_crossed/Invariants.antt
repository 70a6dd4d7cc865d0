-- The blocks so far.
use Rattle.std.proofs.Common.{◌*◌, ◌+◌, ◌++◌, ◌/◌, ◌≡◌}
use Rattle.counting.specs.Sums.{join_below, list_below}
use Rattle.incidence.specs.Packed.{size_of}
use Rattle.three_designs.specs.Loops.{crossed_pair}
use Rattle.three_designs.proofs.doubling.push_crossed.Given as goal

abbrev pub invariant-loop-s : goal.invariant-loop-s
invariant-loop-s l = record {
  rows : l.rows ≡ l.fn.rows ++ join_below l.s (λ s. list_below (l.w / 2) (crossed_pair l.w l.i s));
  size : size_of l.rows ≡ size_of l.fn.rows + 5 * (l.s * (l.w / 2));
}
