use Rattle.std.proofs.Common.{arith, ◌≡◌, ◌<◌, ◌∙◌, sym, length}
use Rattle.counting.proofs.Booleans.{eqb-false, eqb-true}
use Rattle.std.proofs.Math.Nat.{pos_of_ne-zero}
use Rattle.field_tables.proofs.Fill.{positive, small, sum_first, sum_inside, sum_after, sum_below}
use Rattle.field_tables.proofs.ring.next_sum.Goals as goal

pub returns-then-is_empty-clause-sum : goal.returns-then-is_empty-clause-sum
returns-then-is_empty-clause-sum c =
    let none : length c.args.sums.now ≡ 0 = eqb-true _ _ (sym c.is_empty.ensures ∙ c.if-is_empty.true) in
    sum_first c.args.polynomial.now c.requires.listed c.args.x c.args.y (omega arith) c.requires.x_below

pub overflow_add-result : goal.overflow_add-result
overflow_add-result c = omega (arith, small c.args.polynomial.now c.requires.listed)

pub nonzero_rem-result : goal.nonzero_rem-result
nonzero_rem-result c = positive c.args.polynomial.now c.requires.listed

pub nonzero_div-x : goal.nonzero_div-x
nonzero_div-x c = positive c.args.polynomial.now c.requires.listed

pub nonzero_div-y : goal.nonzero_div-y
nonzero_div-y c = positive c.args.polynomial.now c.requires.listed

pub entry-requires : goal.entry-requires
entry-requires c =
    let some : 0 < length c.args.sums.now = pos_of_ne-zero (eqb-false _ _ (sym c.is_empty.ensures ∙ c.if-is_empty.false)) in
    omega (arith, sum_inside c.args.polynomial.now c.requires.listed c.args.x c.args.y c.requires.x_below c.requires.y_below (omega arith))

pub overflow_mul-result : goal.overflow_mul-result
overflow_mul-result c =
    let f = c.args.polynomial.now in
    let some : 0 < length c.args.sums.now = pos_of_ne-zero (eqb-false _ _ (sym c.is_empty.ensures ∙ c.if-is_empty.false)) in
    let sum = sum_after f c.requires.listed c.args.x c.args.y c.entry.result c.args.sums.now c.requires.x_below c.requires.y_below c.requires.sums c.requires.size some c.entry.ensures in
    omega (arith, sum, sum_below f c.requires.listed c.args.x c.args.y, small f c.requires.listed)

pub overflow_add-result-2 : goal.overflow_add-result-2
overflow_add-result-2 c =
    let f = c.args.polynomial.now in
    let some : 0 < length c.args.sums.now = pos_of_ne-zero (eqb-false _ _ (sym c.is_empty.ensures ∙ c.if-is_empty.false)) in
    let sum = sum_after f c.requires.listed c.args.x c.args.y c.entry.result c.args.sums.now c.requires.x_below c.requires.y_below c.requires.sums c.requires.size some c.entry.ensures in
    omega (arith, sum, sum_below f c.requires.listed c.args.x c.args.y, small f c.requires.listed)

pub returns-clause-sum : goal.returns-clause-sum
returns-clause-sum c =
    let some : 0 < length c.args.sums.now = pos_of_ne-zero (eqb-false _ _ (sym c.is_empty.ensures ∙ c.if-is_empty.false)) in
    sum_after c.args.polynomial.now c.requires.listed c.args.x c.args.y c.entry.result c.args.sums.now c.requires.x_below c.requires.y_below c.requires.sums c.requires.size some c.entry.ensures

pub returns-clause-below : goal.returns-clause-below
returns-clause-below c =
    let f = c.args.polynomial.now in
    let some : 0 < length c.args.sums.now = pos_of_ne-zero (eqb-false _ _ (sym c.is_empty.ensures ∙ c.if-is_empty.false)) in
    let sum = sum_after f c.requires.listed c.args.x c.args.y c.entry.result c.args.sums.now c.requires.x_below c.requires.y_below c.requires.sums c.requires.size some c.entry.ensures in
    omega (arith, sum, sum_below f c.requires.listed c.args.x c.args.y)
