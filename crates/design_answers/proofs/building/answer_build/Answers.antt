use Rattle.catalogues.proofs.Left.{left_refl}
use Rattle.design_answers.proofs.Offered.{built_no, built_yes}
use Rattle.design_answers.proofs.building.answer_build.Goals as goal

pub returns-in-Yes-clause-ends : goal.returns-in-Yes-clause-ends
returns-in-Yes-clause-ends g c = built_yes c.args.query.now _ c.answer_yes.result (g.K.Sink.held c.args.out.now) (g.K.Sink.held c.answer_yes.new.out) c.answer_yes.ensures.no_offer c.args.shape _ c.in-Yes.step c.in-Yes.ensures c.answer_yes.ensures.ends

pub returns-in-Yes-clause-left : goal.returns-in-Yes-clause-left
returns-in-Yes-clause-left g c = left_refl _

pub returns-in-No-clause-ends : goal.returns-in-No-clause-ends
returns-in-No-clause-ends g c = built_no c.args.query.now _ c.answer_verdict.result (g.K.Sink.held c.args.out.now) (g.K.Sink.held c.answer_verdict.new.out) c.answer_verdict.ensures.no_offer c.args.shape _ c.in-No.criterion c.in-No.ensures c.answer_verdict.ensures.ends

pub returns-in-No-clause-left : goal.returns-in-No-clause-left
returns-in-No-clause-left g c = left_refl _
