-- The rows so far.
use Rattle.std.proofs.Common.{◌≡◌, ◌*◌, ◌+◌, take}
use Rattle.incidence.specs.Packed.{size_of}
use Rattle.arrays.proofs.blocks.tests.packed.Given as goal

abbrev pub invariant-loop-row : goal.invariant-loop-row
invariant-loop-row g l = record {
  rows : l.rows ≡ take l.row-index l.list;
  size : size_of l.rows ≡ l.row-index * (g.row.W + 1);
}
