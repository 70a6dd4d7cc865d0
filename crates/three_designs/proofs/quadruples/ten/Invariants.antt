-- The blocks so far.
use Rattle.std.proofs.Common.{◌*◌, ◌≡◌}
use Rattle.counting.specs.Sums.{join_below}
use Rattle.incidence.specs.Packed.{size_of}
use Rattle.three_designs.specs.Quadruples.{turned_blocks}
use Rattle.three_designs.proofs.quadruples.ten.Given as goal

abbrev pub invariant-loop-c : goal.invariant-loop-c
invariant-loop-c l = record {
  rows : l.rows ≡ join_below l.c turned_blocks;
  size : size_of l.rows ≡ 15 * l.c;
}
