use Rattle.std.proofs.Common.{Some, arith, ap, inl, inr, sym, ◌∙◌}
use Rattle.block_texts.proofs.Numbers.{digits-many, digits-none, digits-number, small-none, small-some}
use Rattle.block_texts.proofs.front.number_at_front.Goals as goal

pub returns-then-digits-eq0-clause-number : goal.returns-then-digits-eq0-clause-number
returns-then-digits-eq0-clause-number c = elim c.then-digits-eq0.either [
  | inl none ↦ digits-none c.args.text.now (c.digits_at_front-digits.ensures.few (omega arith) ∙ none)
  | inr many ↦ digits-many c.args.text.now (c.digits_at_front-digits.ensures.many many.1)
]

pub returns-in_default-clause-number : goal.returns-in_default-clause-number
returns-in_default-clause-number c =
    digits-number c.args.text.now c.digits_at_front-digits.result.count c.digits_at_front-digits.result.value (omega arith) (omega arith) (c.digits_at_front-digits.ensures.few (omega arith)) c.digits_at_front-digits.ensures.value
    ∙ small-none c.digits_at_front-digits.result.value c.in_default.ensures

pub returns-clause-number : goal.returns-clause-number
returns-clause-number c =
    digits-number c.args.text.now c.digits_at_front-digits.result.count c.digits_at_front-digits.result.value (omega arith) (omega arith) (c.digits_at_front-digits.ensures.few (omega arith)) c.digits_at_front-digits.ensures.value
    ∙ small-some c.digits_at_front-digits.result.value c.in-Ok.ensures.0
    ∙ ap Some (sym c.in-Ok.ensures.1)
