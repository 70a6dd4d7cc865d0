-- What is there and the blocks of the rows that are left are the blocks of all rows.
use Rattle.std.proofs.Common.{◌++◌, ◌≡◌}
use Rattle.std.specs.Prelude.{All}
use Rattle.design_base.specs.Arrays.{IsRow, blocks_of_rows}
use Rattle.incidence.proofs.arrays.blocks_of_rows.Given as goal

abbrev pub invariant-loop-row : goal.invariant-loop-row
invariant-loop-row l = record {
  blocks : l.list ++ blocks_of_rows l.k l.n l.row-iterator ≡ blocks_of_rows l.k l.n l.rows;
  left : All (IsRow l.k l.n) l.row-iterator;
}
