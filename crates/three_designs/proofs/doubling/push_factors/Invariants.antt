-- The blocks so far.
use Rattle.std.proofs.Common.{◌*◌, ◌+◌, ◌++◌, ◌/◌, ◌≡◌}
use Rattle.counting.specs.Sums.{join_below}
use Rattle.incidence.specs.Packed.{size_of}
use Rattle.three_designs.specs.Loops.{crossed_pairs}
use Rattle.three_designs.proofs.doubling.push_factors.Given as goal

abbrev pub invariant-loop-i : goal.invariant-loop-i
invariant-loop-i l = record {
  rows : l.rows ≡ l.fn.rows ++ join_below l.i (crossed_pairs l.w);
  size : size_of l.rows ≡ size_of l.fn.rows + 5 * (l.i * (l.w / 2 * (l.w / 2)));
}
