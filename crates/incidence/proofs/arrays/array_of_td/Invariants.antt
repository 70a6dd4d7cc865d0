-- What is there and the rows of the blocks that are left are the rows of all blocks.
use Rattle.std.proofs.Common.{length, ◌++◌, ◌≡◌}
use Rattle.std.specs.Prelude.{All}
use Rattle.design_base.specs.Arrays.{rows_of_blocks}
use Rattle.incidence.proofs.RowsAndBlocks.{HasPlaces}
use Rattle.incidence.proofs.arrays.array_of_td.Given as goal

abbrev pub invariant-loop-block : goal.invariant-loop-block
invariant-loop-block l = record {
  rows : l.rows ++ rows_of_blocks l.n l.block-iterator ≡ rows_of_blocks l.n l.td;
  sizes : All (λ block. length block ≡ l.k) l.block-iterator;
  points : All (HasPlaces l.n) l.block-iterator;
}
