-- What is there and what the rows that are left will give is what all rows give.
use Rattle.std.proofs.Common.{length, ◌++◌, ◌+◌, ◌≡◌}
use Rattle.std.specs.Prelude.{All}
use Rattle.design_base.specs.Arrays.{IsRow, blocks_of_rows}
use Rattle.wilson.proofs.filling.push_filled.Given as goal
use Rattle.wilson.specs.Truncations.{filled_rows}

abbrev pub invariant-loop-row : goal.invariant-loop-row
invariant-loop-row l = record {
  blocks : l.rows ++ blocks_of_rows l.k l.n (filled_rows l.k l.m l.infinite l.master l.row-iterator)
      ≡ l.fn.rows ++ blocks_of_rows l.k l.n (filled_rows l.k l.m l.infinite l.master l.ingredient);
  left : All (IsRow l.k (l.m + length l.infinite)) l.row-iterator;
}
