-- The covers of the elements so far are added.
use Rattle.std.proofs.Common.{List, ℕ, ◌*◌, ◌^◌, ◌≡◌, ◌≤◌}
use Rattle.counting.specs.Sums.{sum_below}
use Rattle.design_base.specs.Blocks.{cover}
use Rattle.design_base.specs.Meets.{group_add}
use Rattle.design_checks.specs.Counts.{Counts}
use Rattle.design_checks.proofs.differences.times_difference.Given as goal

abbrev pub invariant-loop-x : goal.invariant-loop-x
invariant-loop-x l = record {
  small : l.sum ≤ l.x * 2 ^ 32;
  sum : (B : List (List ℕ)) → Counts l.counts l.v 0 l.v B → l.sum ≡ sum_below l.x (λ x. cover B x (group_add l.fn.group l.v x l.d));
}
