use Rattle.std.proofs.Common.{◌≡◌, ◌<◌, ◌^◌, take, arith, ap, length-take, sym, ◌∙◌}
use Rattle.std.specs.Char.{is_ascii_digit}
use Rattle.std.specs.List.{list_all}
use Rattle.std.proofs.lemmas.Grind.{common_steps}
use Rattle.design_lines.proofs.Digits.{value_below, value_more}
use Rattle.block_texts.proofs.Fronts.{counted, counted_least}
use Rattle.block_texts.proofs.front.digits_at_front.Goals as goal

pub returns-then-not-is_ascii_digit-clause-few : goal.returns-then-not-is_ascii_digit-clause-few
returns-then-not-is_ascii_digit-clause-few c = λ few.
    counted is_ascii_digit c.args.text.now c.loop-count.count (omega arith) c.loop-count.invariant.digits (λ more. sym c.is_ascii_digit.ensures.value ∙ c.if-not-is_ascii_digit.true)

pub overflow_mul-value : goal.overflow_mul-value
overflow_mul-value c =
    let room : c.loop-count.value < 10 ^ 5 = value_below _ 5 c.loop-count.value c.loop-count.invariant (omega (arith, length-take c.loop-count.count c.args.text.now)) in
    grind (arith, common_steps)

pub overflow_add-value : goal.overflow_add-value
overflow_add-value c =
    let room : c.loop-count.value < 10 ^ 5 = value_below _ 5 c.loop-count.value c.loop-count.invariant (omega (arith, length-take c.loop-count.count c.args.text.now)) in
    grind (arith, common_steps)

pub loop-count-preserved : goal.loop-count-preserved
loop-count-preserved c =
    rw c.from.ensures (value_more c.args.text.now c.loop-count.count c.loop-count.value (omega arith) c.loop-count.invariant (sym c.is_ascii_digit.ensures.value ∙ c.if-not-is_ascii_digit.false))

pub returns-clause-few : goal.returns-clause-few
returns-clause-few c = λ few.
    let all : c.loop-count.count ≡ c.min-most.result = omega arith in
    counted is_ascii_digit c.args.text.now c.min-most.result (omega arith) (ap (λ n. list_all is_ascii_digit (take n c.args.text.now)) (sym all) ∙ c.loop-count.invariant.digits) (λ more. absurd (omega arith))

pub returns-clause-many : goal.returns-clause-many
returns-clause-many c = λ many.
    let all : c.loop-count.count ≡ c.min-most.result = omega arith in
    let least = counted_least is_ascii_digit c.args.text.now c.loop-count.count (omega arith) c.loop-count.invariant.digits in
    omega (arith, least, all, many)
