use Rattle.std.proofs.Common.{◌<◌, ◌^◌, arith, sym, ◌∙◌}
use Rattle.std.proofs.lemmas.Grind.{common_steps}
use Rattle.design_lines.proofs.Digits.{value_room, value_more, value_small}
use Rattle.design_lines.proofs.numbers.value_of.Goals as goal

pub overflow_mul-value : goal.overflow_mul-value
overflow_mul-value c =
    let room : c.loop-digit.value < 10 ^ 8 = value_room c.args.digits.now c.loop-digit.digit-index _ c.loop-digit-test.true c.requires c.loop-digit.invariant in
    grind (arith, common_steps)

pub overflow_add-value : goal.overflow_add-value
overflow_add-value c =
    let room : c.loop-digit.value < 10 ^ 8 = value_room c.args.digits.now c.loop-digit.digit-index _ c.loop-digit-test.true c.requires c.loop-digit.invariant in
    grind (arith, common_steps)

pub loop-digit-preserved : goal.loop-digit-preserved
loop-digit-preserved c =
    rw c.from.ensures (value_more c.args.digits.now c.loop-digit.digit-index c.loop-digit.value c.loop-digit-test.true c.loop-digit.invariant (sym c.is_ascii_digit.ensures.value ∙ c.if-not-is_ascii_digit.false))

pub returns-clause-small : goal.returns-clause-small
returns-clause-small c = value_small _ _ _ c.loop-digit.invariant
