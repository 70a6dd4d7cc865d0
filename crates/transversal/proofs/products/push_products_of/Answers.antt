use Rattle.std.proofs.Common.{[], arith, ◌*◌, ◌∙◌, ◌∷◌}
use Rattle.std.proofs.lemmas.List.{length-take-le}
use Rattle.design_base.specs.Arrays.{IsRow}
use Rattle.counting.proofs.Lists.{left_after}
use Rattle.incidence.proofs.RowsAndBlocks.{room_next}
use Rattle.transversal.proofs.Steps.{steps}
use Rattle.transversal.proofs.products.push_products_of.Goals as goal
use Rattle.transversal.specs.Constructions.{product_row, products_of}

pub push_row-requires : goal.push_row-requires
push_row-requires c = omega (
  arith,
  room_next c.args.k (c.args.a * c.args.b) c.loop-row.rows c.args.rows.now (product_row c.args.k c.args.b c.args.first.now c.in-Some.row.now ∷ [])
      (products_of c.args.k c.args.b c.next.new.self c.args.first.now) (products_of c.args.k c.args.b c.args.second.now c.args.first.now) (grind (arith, steps)),
  length-take-le c.args.k c.write_product.new.block (omega (arith, c.write_product.ensures.len, c.loop-row.invariant.block, c.requires.groups)),
  c.requires.room,
)

pub loop-row-preserved : goal.loop-row-preserved
loop-row-preserved c = record {
  blocks = grind (arith, steps);
  block = c.write_product.ensures.len ∙ c.loop-row.invariant.block;
  left = left_after (IsRow c.args.k c.args.b) c.loop-row.row-iterator c.in-Some.row.now c.next.new.self (grind arith) c.loop-row.invariant.left;
}
