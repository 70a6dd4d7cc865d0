use Rattle.std.proofs.Common.{arith, ◌∙◌}
use Rattle.std.proofs.lemmas.List.{length-set}
use Rattle.design_base.specs.Fields.{field_product}
use Rattle.incidence.proofs.RowsAndBlocks.{front_next}
use Rattle.transversal.proofs.lines.products_by.Goals as goal

pub loop-j-preserved : goal.loop-j-preserved
loop-j-preserved c = record {
  size = length-set c.loop-j.products c.loop-j.j _ ∙ c.loop-j.invariant.size;
  products = front_next (λ j. field_product c.args.field.now j c.args.x) c.loop-j.products c.loop-j.j c.mul.result
      (omega (arith, c.loop-j.invariant.size, c.loop-j-test.true, c.requires.points, c.order-j-end.ensures.order)) c.loop-j.invariant.products c.mul.ensures.product;
}
