use Rattle.catalogues.proofs.Left.{left_refl}
use Rattle.design_answers.proofs.Offered.{closed_ask, none_seen, open_alone}
use Rattle.design_answers.proofs.asking.answer_ask.Goals as goal

pub returns-in_default-clause-ends : goal.returns-in_default-clause-ends
returns-in_default-clause-ends g c =
    closed_ask c.args.query.now _ c.answer_verdict.result (g.K.Sink.held c.args.out.now) (g.K.Sink.held c.answer_verdict.new.out) c.answer_verdict.ensures.no_offer c.verdict-verdict.result _ c.verdict-verdict.ensures c.in_default.not-Unknown c.answer_verdict.ensures.ends

pub returns-in_default-clause-left : goal.returns-in_default-clause-left
returns-in_default-clause-left g c = left_refl _

pub returns-then-is_empty-clause-ends : goal.returns-then-is_empty-clause-ends
returns-then-is_empty-clause-ends g c =
    open_alone c.args.query.now _ c.answer_verdict-then-is_empty.result (g.K.Sink.held c.args.out.now) (g.K.Sink.held c.answer_verdict-then-is_empty.new.out) c.answer_verdict-then-is_empty.ensures.no_offer _ c.in-Unknown.ensures (none_seen _ c.args.catalogues.now.items _ c.args.catalogues.now.ok.0 c.if-is_empty.ensures) (rw c.in-Unknown.is at c.answer_verdict-then-is_empty.ensures.ends)

pub returns-then-is_empty-clause-left : goal.returns-then-is_empty-clause-left
returns-then-is_empty-clause-left g c = left_refl _
