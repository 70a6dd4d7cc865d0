-- What is there and what the rows that are left will give is what all rows give.
use Rattle.std.proofs.Common.{length, ◌++◌, ◌≡◌, ◌≤◌}
use Rattle.std.specs.Prelude.{All}
use Rattle.design_base.specs.Arrays.{IsRow, blocks_of_rows}
use Rattle.design_base.specs.declared.limits.TheConstants.{TD_K_MAX}
use Rattle.transversal.proofs.blocks.push_raised.Given as goal
use Rattle.transversal.specs.Constructions.{raised}

abbrev pub invariant-loop-row : goal.invariant-loop-row
invariant-loop-row l = record {
  blocks : l.rows ++ blocks_of_rows l.k l.n (raised l.c l.row-iterator) ≡ l.fn.rows ++ blocks_of_rows l.k l.n (raised l.c l.array);
  grown : length l.fn.rows ≤ length l.rows;
  block : length l.block ≡ TD_K_MAX;
  left : All (IsRow l.k l.h) l.row-iterator;
}
