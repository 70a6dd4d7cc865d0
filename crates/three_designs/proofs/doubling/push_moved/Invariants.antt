-- What is there and the moved blocks to come.
use Rattle.std.proofs.Common.{map, ◌≡◌}
use Rattle.design_base.specs.Blocks.{IsBlock}
use Rattle.incidence.proofs.Appended.{Extends}
use Rattle.incidence.specs.Packed.{size_of}
use Rattle.three_designs.specs.Quadruples.{moved}
use Rattle.three_designs.proofs.doubling.push_moved.Given as goal

abbrev pub invariant-loop-block : goal.invariant-loop-block
invariant-loop-block l = Extends (map (moved l.w)) size_of (IsBlock l.w (λ size. size ≡ 4)) l.fn.rows l.system l.rows l.block-iterator
