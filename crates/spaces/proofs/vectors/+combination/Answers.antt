use Rattle.std.proofs.Common.{arith, ◌<◌, ℕ, ◌+◌, ◌*◌, ◌^◌, sym, subst}
use Rattle.design_base.specs.Fields.{field_product, field_sum}
use Rattle.field_tables.proofs.Listed.{listed_field, order_above}
use Rattle.spaces.proofs.VectorSpaces.{combination-none, combination-pred, power-pred, vector_below-pred}
use Rattle.spaces.proofs.vectors.+combination.Goals as goal

pub returns-then-n-eq0-clause-value : goal.returns-then-n-eq0-clause-value
returns-then-n-eq0-clause-value t c = sym (combination-none c.args.field.now (field_sum c.args.field.now) (field_product c.args.field.now) c.args.n c.args.a c.args.x c.args.b c.args.y c.if-n-eq0.true)

pub combination-requires : goal.combination-requires
combination-requires t c = let one : 1 < c.args.field.now = order_above c.args.field.now c.order-q.ensures.listed in
    (omega arith, (c.requires.coefficients, power-pred c.args.field.now c.args.n 65536 (omega arith) (omega arith) c.requires.fits))

below : (t : ℕ) (c : goal.After-combination t) → c.add-first.result + c.order-q.result * c.combination.result < c.args.field.now ^ c.args.n
below t c =
    subst (λ q. c.add-first.result + q * c.combination.result < c.args.field.now ^ c.args.n) (sym c.order-q.ensures.order)
    (vector_below-pred c.args.field.now c.args.n c.add-first.result c.combination.result (omega arith) c.add-first.ensures.below c.combination.ensures.below)

pub overflow_mul-result : goal.overflow_mul-result
overflow_mul-result t c = omega (arith, below t c, c.requires.fits)

pub overflow_add-result : goal.overflow_add-result
overflow_add-result t c = omega (arith, below t c, c.requires.fits)

pub returns-clause-value : goal.returns-clause-value
returns-clause-value t c = cc (combination-pred c.args.field.now (field_sum c.args.field.now) (field_product c.args.field.now) (listed_field c.args.field.now c.order-q.ensures.listed) c.args.n c.args.a c.args.x c.args.b c.args.y (omega arith))

pub returns-clause-below : goal.returns-clause-below
returns-clause-below t c = below t c
