-- What is there and what the rows that are left will give is what all rows give.
use Rattle.std.proofs.Common.{◌*◌, ◌++◌, ◌≡◌}
use Rattle.std.specs.Prelude.{All}
use Rattle.design_base.specs.Arrays.{IsRow, blocks_of_rows}
use Rattle.transversal.proofs.products.push_products.Given as goal
use Rattle.transversal.specs.Constructions.{product_rows}

abbrev pub invariant-loop-row : goal.invariant-loop-row
invariant-loop-row l = record {
  blocks : l.rows ++ blocks_of_rows l.k (l.a * l.b) (product_rows l.k l.b l.row-iterator l.second) ≡ l.fn.rows ++ blocks_of_rows l.k (l.a * l.b) (product_rows l.k l.b l.first l.second);
  left : All (IsRow l.k l.a) l.row-iterator;
}
