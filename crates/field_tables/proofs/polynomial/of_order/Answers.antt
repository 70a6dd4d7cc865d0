use Rattle.std.proofs.Common.{◌∙◌, ap, drop_of_length-le, sym}
use Rattle.counting.specs.Search.{first_in}
use Rattle.field_tables.specs.Tables.{found_in}
use Rattle.field_tables.proofs.Search.{found_at, found_on}
use Rattle.field_tables.proofs.polynomial.of_order.Goals as goal

pub returns-then-polynomial-q : goal.returns-then-polynomial-q
returns-then-polynomial-q c =
    found_at c.args.q c.loop-polynomial.polynomial-index c.args.polynomials.now _ c.loop-polynomial-test.true c.loop-polynomial.invariant.left c.loop-polynomial.invariant.orders c.if-polynomial-q.true

pub loop-polynomial-preserved : goal.loop-polynomial-preserved
loop-polynomial-preserved c =
    let next = found_on c.args.q c.loop-polynomial.polynomial-index c.args.polynomials.now _ c.loop-polynomial-test.true c.loop-polynomial.invariant.left c.loop-polynomial.invariant.orders c.if-polynomial-q.false in
    record { left = next.0; orders = next.1 }

pub returns : goal.returns
unfolding first_in
returns c = sym c.loop-polynomial.invariant.left ∙ ap (found_in c.args.q) (drop_of_length-le c.args.polynomials.now c.loop-polynomial-test.false)
