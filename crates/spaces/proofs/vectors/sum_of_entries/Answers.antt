use Rattle.std.proofs.Common.{arith, length, subst, sym, ◌*◌, ◌+◌, ◌<◌, ◌^◌}
use Rattle.field_tables.proofs.Listed.{order_above}
use Rattle.spaces.proofs.EntrySteps.{sum_small}
use Rattle.spaces.proofs.vectors.sum_of_entries.Goals as goal

small : (c : goal.After-add) → c.add.result + c.order-q.result * c.loop-i.sum < c.args.field.now ^ length c.args.x.now
small c =
    let one : 1 < c.args.field.now = order_above c.args.field.now c.order-q.ensures.listed in
    subst (λ q. c.add.result + q * c.loop-i.sum < c.args.field.now ^ length c.args.x.now) (sym c.order-q.ensures.order)
    (sum_small c.args.field.now c.loop-i.i (length c.args.x.now) c.add.result c.loop-i.sum (omega arith) (omega (arith, c.loop-i-test.true)) c.add.ensures.below c.loop-i.invariant.below)

pub overflow_mul-sum : goal.overflow_mul-sum
overflow_mul-sum c = omega (arith, small c, c.requires.fits)

pub overflow_add-sum : goal.overflow_add-sum
overflow_add-sum c = omega (arith, small c, c.requires.fits)
