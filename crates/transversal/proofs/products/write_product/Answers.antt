use Rattle.std.proofs.Common.{arith, ◌*◌, ◌∙◌}
use Rattle.std.proofs.lemmas.List.{length-set}
use Rattle.transversal.proofs.Buffers.{written_whole}
use Rattle.transversal.proofs.ProductArray.{product_written_next}
use Rattle.transversal.proofs.products.write_product.Goals as goal
use Rattle.transversal.specs.Constructions.{product_row}

pub loop-j-preserved : goal.loop-j-preserved
loop-j-preserved c = record {
  size = length-set c.loop-j.block c.loop-j.j _ ∙ c.loop-j.invariant.size;
  points = product_written_next c.args.k (c.args.a * c.args.b) c.args.b c.loop-j.j c.args.first.now c.args.second.now c.loop-j.block
      c.loop-j-test.true (omega (arith, c.loop-j.invariant.size, c.loop-j-test.true, c.requires.room)) c.loop-j.invariant.points;
}

pub returns-clause-front : goal.returns-clause-front
returns-clause-front c = written_whole c.args.k (c.args.a * c.args.b) c.loop-j.j (product_row c.args.k c.args.b c.args.first.now c.args.second.now) c.loop-j.block
    c.loop-j.auto.j-end c.loop-j-test.false c.loop-j.invariant.points
