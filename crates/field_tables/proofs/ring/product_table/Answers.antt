use Rattle.std.proofs.Common.{arith}
use Rattle.design_base.specs.Fields.{field_product}
use Rattle.field_tables.proofs.Fill.{small}
use Rattle.field_tables.proofs.Values.{begun_push}
use Rattle.field_tables.proofs.ring.product_table.Goals as goal

pub overflow_cast-product : goal.overflow_cast-product
overflow_cast-product c = omega (arith, small c.args.polynomial.now c.requires.listed)

pub loop-y-preserved : goal.loop-y-preserved
loop-y-preserved c =
    begun_push (field_product c.args.polynomial.now.order) c.args.polynomial.now.order c.loop-x.x c.loop-y.y c.next_product-product.result c.loop-y.products.items _
    (record { size = c.loop-y.invariant.size; entries = c.loop-y.invariant.entries }) c.loop-y-test.true c.next_product-product.ensures.product c.in_ok-push.ensures.items
