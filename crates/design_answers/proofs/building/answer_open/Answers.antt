use Rattle.design_answers.proofs.Offered.{ended_on, handed_on}
use Rattle.design_answers.proofs.building.answer_open.Goals as goal

pub returns-in-Ok-clause-ends : goal.returns-in-Ok-clause-ends
returns-in-Ok-clause-ends g c =
    handed_on c.args.query.now _ _ _ _ c.in-Ok.ensures.told c.in-Ok.ensures.ends c.answer_handed.result c.answer_handed.ensures.no_offer (g.K.Sink.held c.args.out.now) (g.K.Sink.held c.answer_handed.new.out)
    c.args.shape c.answer_handed.ensures.ends

pub returns-in-Err-clause-ends : goal.returns-in-Err-clause-ends
returns-in-Err-clause-ends g c = ended_on _ _ _ _ _ c.in-Err.end _ (g.K.Sink.held c.args.out.now) c.ending_of.ensures c.in-Err.ensures.cause
