-- What is there and the translates of the blocks to come.
use Rattle.std.proofs.Common.{length, ◌+◌, ◌*◌, ◌≡◌}
use Rattle.std.specs.List.{flat_map}
use Rattle.design_base.specs.Blocks.{IsBlock}
use Rattle.design_base.specs.Meets.{group_add}
use Rattle.difference_sets.specs.Develop.{translates_below}
use Rattle.incidence.proofs.Appended.{Extends}
use Rattle.difference_sets.proofs.translates.push_developed.Given as goal

abbrev pub invariant-loop-block : goal.invariant-loop-block
invariant-loop-block l = Extends (flat_map (translates_below l.sums.1 (group_add l.sums.0 l.sums.1))) (λ B. l.sums.1 * ((l.k + 1) * length B)) (IsBlock l.sums.1 (λ size. size ≡ l.k)) l.fn.rows l.base l.rows l.block-iterator
