use Rattle.std.proofs.Common.{arith, ◌<◌, ◌-◌, ◌/◌}
use Rattle.field_tables.specs.Tables.{modulus_in, shifted}
use Rattle.field_tables.proofs.Fill.{positive, shift_first, before_high, shift_below, shift_after}
use Rattle.field_tables.proofs.Values.{in_table}
use Rattle.field_tables.proofs.ring.next_shift.Goals as goal

pub nonzero_div-high : goal.nonzero_div-high
nonzero_div-high c = positive c.args.polynomial.now c.requires.listed

pub returns-then-y-high-clause-shift : goal.returns-then-y-high-clause-shift
returns-then-y-high-clause-shift c = shift_first c.args.polynomial.now c.requires.listed c.args.y c.if-y-high.true

pub bounds-shifts-y : goal.bounds-shifts-y
bounds-shifts-y c = omega (arith, before_high c.args.polynomial.now c.requires.listed c.args.y c.if-y-high.false)

pub entry-requires : goal.entry-requires
entry-requires c =
    let f = c.args.polynomial.now in
    let y = c.args.y - f.order / f.prime in
    let before : y < c.args.y = before_high f c.requires.listed c.args.y c.if-y-high.false in
    let value = c.requires.shifts y (omega arith) in
    let below = shift_below f c.requires.listed y (omega arith) in
    let inside = in_table f.order (shifted (modulus_in f) y) c.excess.result below c.excess.ensures.below in
    rw value (omega (arith, inside, c.requires.sums.size))

pub returns-clause-shift : goal.returns-clause-shift
returns-clause-shift c =
    let f = c.args.polynomial.now in
    let y = c.args.y - f.order / f.prime in
    let before : y < c.args.y = before_high f c.requires.listed c.args.y c.if-y-high.false in
    shift_after f c.requires.listed c.args.y _ c.excess.result c.entry.result c.args.sums.now c.if-y-high.false c.requires.y_below (c.requires.shifts y (omega arith)) c.excess.ensures.value c.excess.ensures.below c.requires.sums c.entry.ensures

pub returns-clause-below : goal.returns-clause-below
returns-clause-below c =
    let f = c.args.polynomial.now in
    let y = c.args.y - f.order / f.prime in
    let before : y < c.args.y = before_high f c.requires.listed c.args.y c.if-y-high.false in
    let value = shift_after f c.requires.listed c.args.y _ c.excess.result c.entry.result c.args.sums.now c.if-y-high.false c.requires.y_below (c.requires.shifts y (omega arith)) c.excess.ensures.value c.excess.ensures.below c.requires.sums c.entry.ensures in
    omega (arith, value, shift_below f c.requires.listed c.args.y c.requires.y_below)
