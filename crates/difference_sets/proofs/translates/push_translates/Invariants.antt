-- The translates by the elements so far.
use Rattle.std.proofs.Common.{length, ◌++◌, ◌+◌, ◌*◌, ◌≡◌}
use Rattle.design_base.specs.Meets.{group_add}
use Rattle.incidence.specs.Packed.{size_of}
use Rattle.difference_sets.specs.Develop.{translates_below}
use Rattle.difference_sets.proofs.translates.push_translates.Given as goal

abbrev pub invariant-loop-c : goal.invariant-loop-c
invariant-loop-c l = record {
  blocks : l.rows ≡ l.fn.rows ++ translates_below l.c (group_add l.sums.0 l.sums.1) l.block;
  size : size_of l.rows ≡ size_of l.fn.rows + l.c * (length l.block + 1);
}
