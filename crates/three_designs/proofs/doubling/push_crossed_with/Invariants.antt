-- The blocks so far.
use Rattle.std.proofs.Common.{◌*◌, ◌+◌, ◌++◌, ◌≡◌}
use Rattle.counting.specs.Sums.{list_below}
use Rattle.incidence.specs.Packed.{size_of}
use Rattle.three_designs.specs.Loops.{crossed_pair}
use Rattle.three_designs.proofs.doubling.push_crossed_with.Given as goal

abbrev pub invariant-loop-t : goal.invariant-loop-t
invariant-loop-t l = record {
  rows : l.rows ≡ l.fn.rows ++ list_below l.t (crossed_pair l.w l.i l.s);
  size : size_of l.rows ≡ size_of l.fn.rows + 5 * l.t;
}
