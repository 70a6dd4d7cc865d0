use Rattle.std.proofs.Common.{refl}
use Rattle.derivations.proofs.Derived.{derived_from}
use Rattle.derivations.proofs.unfolding.derive.Goals as goal

pub new-requires : goal.new-requires
new-requires g c = (derived_from c.args.q.now c.args.step.now c.new-lines.result c.unfold.new.lines c.unfold.new.lines c.requires.bounds c.requires.verdict c.new-lines.ensures c.in_ok-unfold.ensures.lines refl).sound

pub returns-clause-lines : goal.returns-clause-lines
returns-clause-lines g c = (derived_from c.args.q.now c.args.step.now c.new-lines.result c.unfold.new.lines c.new.result c.requires.bounds c.requires.verdict c.new-lines.ensures c.in_ok-unfold.ensures.lines c.new.ensures).derived

pub returns-clause-question : goal.returns-clause-question
returns-clause-question g c = (derived_from c.args.q.now c.args.step.now c.new-lines.result c.unfold.new.lines c.new.result c.requires.bounds c.requires.verdict c.new-lines.ensures c.in_ok-unfold.ensures.lines c.new.ensures).question

pub returns-clause-design : goal.returns-clause-design
returns-clause-design g c = (derived_from c.args.q.now c.args.step.now c.new-lines.result c.unfold.new.lines c.new.result c.requires.bounds c.requires.verdict c.new-lines.ensures c.in_ok-unfold.ensures.lines c.new.ensures).design
