use Rattle.std.proofs.Common.{arith, ◌-◌}
use Rattle.field_tables.specs.Tables.{modulus_in, shifted}
use Rattle.field_tables.proofs.Fill.{positive, shift_below, product_first, product_below, multiple_inside, multiple_after, next_inside, before_is, next_after}
use Rattle.field_tables.proofs.Values.{in_table}
use Rattle.field_tables.proofs.ring.next_product.Goals as goal

pub returns-then-x-eq0-clause-product : goal.returns-then-x-eq0-clause-product
returns-then-x-eq0-clause-product c = product_first c.args.polynomial.now c.requires.listed c.args.x c.args.y c.if-x-eq0.true

pub nonzero_rem-x : goal.nonzero_rem-x
nonzero_rem-x c = positive c.args.polynomial.now c.requires.listed

pub entry-requires : goal.entry-requires
entry-requires c =
    let f = c.args.polynomial.now in
    let value = c.requires.shifts c.args.y (omega arith) in
    let inside = multiple_inside f c.requires.listed c.args.x c.args.y (shifted (modulus_in f) c.args.y) (omega arith) (shift_below f c.requires.listed c.args.y c.requires.y_below) in
    rw value (omega (arith, inside))

pub returns-then-x-prime-eq0-clause-product : goal.returns-then-x-prime-eq0-clause-product
returns-then-x-prime-eq0-clause-product c =
    let f = c.args.polynomial.now in
    multiple_after f c.requires.listed c.args.x c.args.y _ c.entry.result c.args.products.now (omega arith) c.requires.x_below c.requires.y_below c.if-x-prime-eq0.true (c.requires.shifts c.args.y (omega arith)) c.requires.products c.requires.size c.entry.ensures

pub returns-then-x-prime-eq0-clause-below : goal.returns-then-x-prime-eq0-clause-below
returns-then-x-prime-eq0-clause-below c =
    let f = c.args.polynomial.now in
    let value = multiple_after f c.requires.listed c.args.x c.args.y _ c.entry.result c.args.products.now (omega arith) c.requires.x_below c.requires.y_below c.if-x-prime-eq0.true (c.requires.shifts c.args.y (omega arith)) c.requires.products c.requires.size c.entry.ensures in
    omega (arith, value, product_below f c.requires.listed c.args.x c.args.y)

pub entry-requires-2 : goal.entry-requires-2
entry-requires-2 c = omega (arith, next_inside c.args.polynomial.now c.requires.listed c.args.x c.args.y (omega arith) c.requires.y_below)

pub entry-requires-3 : goal.entry-requires-3
entry-requires-3 c =
    let f = c.args.polynomial.now in
    let before = before_is f c.requires.listed c.args.x c.args.y c.entry-2.result c.args.products.now (omega arith) c.requires.y_below c.requires.products c.requires.size c.entry-2.ensures in
    let inside = in_table f.order c.entry-2.result c.args.y (omega (arith, before, product_below f c.requires.listed (c.args.x - 1) c.args.y)) c.requires.y_below in
    omega (arith, inside, c.requires.sums.size)

pub returns-clause-product : goal.returns-clause-product
returns-clause-product c =
    let f = c.args.polynomial.now in
    let before = before_is f c.requires.listed c.args.x c.args.y c.entry-2.result c.args.products.now (omega arith) c.requires.y_below c.requires.products c.requires.size c.entry-2.ensures in
    next_after f c.requires.listed c.args.x c.args.y c.entry-2.result c.entry-3.result c.args.sums.now c.requires.x_below c.requires.y_below c.if-x-prime-eq0.false before c.requires.sums c.entry-3.ensures

pub returns-clause-below : goal.returns-clause-below
returns-clause-below c =
    let f = c.args.polynomial.now in
    let before = before_is f c.requires.listed c.args.x c.args.y c.entry-2.result c.args.products.now (omega arith) c.requires.y_below c.requires.products c.requires.size c.entry-2.ensures in
    let value = next_after f c.requires.listed c.args.x c.args.y c.entry-2.result c.entry-3.result c.args.sums.now c.requires.x_below c.requires.y_below c.if-x-prime-eq0.false before c.requires.sums c.entry-3.ensures in
    omega (arith, value, product_below f c.requires.listed c.args.x c.args.y)
