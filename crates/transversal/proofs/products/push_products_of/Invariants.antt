-- What is there and what the rows that are left will give is what all rows give.
use Rattle.std.proofs.Common.{length, ◌*◌, ◌++◌, ◌≡◌}
use Rattle.std.specs.Prelude.{All}
use Rattle.design_base.specs.Arrays.{IsRow, blocks_of_rows}
use Rattle.design_base.specs.declared.limits.TheConstants.{TD_K_MAX}
use Rattle.transversal.proofs.products.push_products_of.Given as goal
use Rattle.transversal.specs.Constructions.{products_of}

abbrev pub invariant-loop-row : goal.invariant-loop-row
invariant-loop-row l = record {
  blocks : l.rows ++ blocks_of_rows l.k (l.a * l.b) (products_of l.k l.b l.row-iterator l.first) ≡ l.fn.rows ++ blocks_of_rows l.k (l.a * l.b) (products_of l.k l.b l.second l.first);
  block : length l.block ≡ TD_K_MAX;
  left : All (IsRow l.k l.b) l.row-iterator;
}
