-- The points so far.
use Rattle.std.proofs.Common.{length, map, take, ◌+◌, ◌≡◌}
use Rattle.three_designs.proofs.doubling.push_moved_block.Given as goal

abbrev pub invariant-loop-i : goal.invariant-loop-i
invariant-loop-i l = record {
  size : length l.row ≡ 4;
  points : take l.i l.row ≡ map (λ x. x + l.w) (take l.i l.block);
}
