-- The translates of the elements so far.
use Rattle.std.proofs.Common.{length, map, take, ◌≡◌}
use Rattle.design_base.specs.Meets.{group_add}
use Rattle.design_base.specs.declared.limits.TheConstants.{POINTS_MAX}
use Rattle.difference_sets.proofs.translates.push_translate.Given as goal

abbrev pub invariant-loop-i : goal.invariant-loop-i
invariant-loop-i l = record {
  size : length l.row ≡ POINTS_MAX;
  elements : take l.i l.row ≡ map (λ x. group_add l.sums.0 l.sums.1 x l.c) (take l.i l.block);
}
