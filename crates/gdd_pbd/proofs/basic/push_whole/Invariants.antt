-- The blocks so far.
use Rattle.std.proofs.Common.{◌*◌, ◌++◌, ◌+◌, ◌≡◌, ◌≤◌}
use Rattle.incidence.specs.Packed.{size_of}
use Rattle.gdd_pbd.specs.Basic.{whole_blocks}
use Rattle.gdd_pbd.proofs.basic.push_whole.Given as goal

abbrev pub invariant-loop-i : goal.invariant-loop-i
invariant-loop-i l = record {
  rows : l.rows ≡ l.fn.rows ++ whole_blocks l.v l.i;
  size : size_of l.rows ≤ size_of l.fn.rows + l.i * (l.v + 1);
}
