-- The blocks so far.
use Rattle.std.proofs.Common.{map, take, ◌≡◌, ◌++◌, ◌+◌}
use Rattle.incidence.specs.Packed.{size_of}
use Rattle.difference_sets.proofs.entries.push_blocks.Given as goal

abbrev pub invariant-loop-block : goal.invariant-loop-block
invariant-loop-block l = record {
  rows : l.rows ≡ l.fn.rows ++ map (λ block. block.now) (take l.block-index l.blocks);
  size : size_of l.rows ≡ size_of l.fn.rows + size_of (map (λ block. block.now) (take l.block-index l.blocks));
}
