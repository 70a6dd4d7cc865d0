use Rattle.derivation_text.proofs.Texts.{all_pushed}
use Rattle.derivation_text.proofs.printing.push_names.Goals as goal

pub returns-clause-words : goal.returns-clause-words
returns-clause-words c = all_pushed c.args.text.now c.args.numbers.now c.loop-number.text c.loop-number.number-index c.if-is_empty.ensures c.loop-number-test.false c.loop-number.invariant.words
