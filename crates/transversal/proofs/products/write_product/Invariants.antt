-- The points of the columns so far.
use Rattle.std.proofs.Common.{length, slice_index, take, ◌*◌, ◌≡◌}
use Rattle.design_base.specs.Arrays.{row_block}
use Rattle.transversal.proofs.products.write_product.Given as goal
use Rattle.transversal.specs.Constructions.{product_row}

abbrev pub invariant-loop-j : goal.invariant-loop-j
invariant-loop-j l = record {
  size : length l.block ≡ length l.fn.block;
  points : take l.j l.block ≡ row_block l.j (l.a * l.b) (slice_index (product_row l.k l.b l.first l.second));
}
