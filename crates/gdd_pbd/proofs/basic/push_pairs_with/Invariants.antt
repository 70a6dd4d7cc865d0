-- The pairs so far.
use Rattle.std.proofs.Common.{◌*◌, ◌++◌, ◌+◌, ◌≡◌}
use Rattle.incidence.specs.Packed.{size_of}
use Rattle.gdd_pbd.specs.Basic.{pairs_with}
use Rattle.gdd_pbd.proofs.basic.push_pairs_with.Given as goal

abbrev pub invariant-loop-x : goal.invariant-loop-x
invariant-loop-x l = record {
  rows : l.rows ≡ l.fn.rows ++ pairs_with l.y l.x;
  size : size_of l.rows ≡ size_of l.fn.rows + 3 * l.x;
}
