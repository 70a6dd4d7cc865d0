use Rattle.std.proofs.Common.{arith}
use Rattle.design_base.specs.Fields.{field_sum}
use Rattle.field_tables.proofs.Fill.{small}
use Rattle.field_tables.proofs.Values.{begun_push}
use Rattle.field_tables.proofs.ring.sum_table.Goals as goal

pub overflow_cast-sum : goal.overflow_cast-sum
overflow_cast-sum c = omega (arith, small c.args.polynomial.now c.requires)

pub loop-y-preserved : goal.loop-y-preserved
loop-y-preserved c =
    begun_push (field_sum c.args.polynomial.now.order) c.args.polynomial.now.order c.loop-x.x c.loop-y.y c.next_sum-sum.result c.loop-y.sums.items _
    (record { size = c.loop-y.invariant.size; entries = c.loop-y.invariant.entries }) c.loop-y-test.true c.next_sum-sum.ensures.sum c.in_ok-push.ensures.items
