use Rattle.std.proofs.Common.{◌∙◌, sym, arith}
use Rattle.derivation_text.proofs.Readings.{input_first, input_none, input_cut, input_head, input_more}
use Rattle.derivation_text.proofs.input.parse_input.Goals as goal

pub loop-line-init : goal.loop-line-init
loop-line-init c = record { lines = input_first c.args.text.now; few = omega arith }

pub returns-in_default-clause-end : goal.returns-in_default-clause-end
returns-in_default-clause-end c = input_none _ _ c.loop-line.skipped c.loop-line.invariant.lines c.in_default.ensures.line

pub returns-then-not-line-clause-end : goal.returns-then-not-line-clause-end
returns-then-not-line-clause-end c = input_cut _ _ _ _ c.loop-line.skipped c.loop-line.invariant.lines c.in-Some.ensures.line (sym c.is_head_text.ensures ∙ c.if-is_head_text.true) c.if-not-line.true

pub returns-then-is_head_text-clause-derivation : goal.returns-then-is_head_text-clause-derivation
returns-then-is_head_text-clause-derivation c =
    rw (input_head _ _ _ _ c.loop-line.skipped c.loop-line.invariant.lines c.in-Some.ensures.line (sym c.is_head_text.ensures ∙ c.if-is_head_text.true) c.if-not-line.false) c.read_behind.ensures.derivation

pub returns-then-is_head_text-clause-end : goal.returns-then-is_head_text-clause-end
returns-then-is_head_text-clause-end c =
    rw (input_head _ _ _ _ c.loop-line.skipped c.loop-line.invariant.lines c.in-Some.ensures.line (sym c.is_head_text.ensures ∙ c.if-is_head_text.true) c.if-not-line.false) c.read_behind.ensures.end

pub loop-line-preserved : goal.loop-line-preserved
loop-line-preserved c = record {
  lines = input_more _ _ _ _ c.loop-line.skipped c.loop-line.invariant.lines c.in-Some.ensures.line (sym c.is_head_text.ensures ∙ c.if-is_head_text.false);
  few = omega (arith, c.loop-line.invariant.few, c.in-Some.ensures.shorter);
}
