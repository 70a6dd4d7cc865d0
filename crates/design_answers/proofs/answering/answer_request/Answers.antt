use Rattle.std.proofs.Common.{ap}
use Rattle.catalogues.proofs.Left.{left_refl}
use Rattle.design_answers.proofs.Offered.{request_on}
use Rattle.design_answers.specs.Requests.{closure_lines, reason_lines, verb_asks, verb_leaves, verb_report}
use Rattle.design_reports.specs.Reports.{verdict_report}
use Rattle.rule_table.specs.Verdicts.{verdict}
use Rattle.design_answers.proofs.answering.answer_request.Goals as goal

pub returns-in-Explain-clause-ends : goal.returns-in-Explain-clause-ends
returns-in-Explain-clause-ends g c =
    let request = c.args.request in
    let q = request.query in
    request_on request _ (verdict_report q (verdict q) (reason_lines q (verdict q))) c.answer_explain.result (g.K.Sink.held c.args.out.now) (g.K.Sink.held c.answer_explain.new.out)
    (λ lists. ap (λ verb. verb_report verb q request.shape lists) c.in-Explain.is) (λ lists. ap (λ verb. verb_leaves verb q lists) c.in-Explain.is)
    (λ lists. ap (λ verb. verb_asks verb q lists) c.in-Explain.is) c.answer_explain.ensures.no_offer c.answer_explain.ensures.ends

pub returns-in-Explain-clause-left : goal.returns-in-Explain-clause-left
returns-in-Explain-clause-left g c = left_refl _

pub returns-in-Closure-clause-ends : goal.returns-in-Closure-clause-ends
returns-in-Closure-clause-ends g c =
    let request = c.args.request in
    let q = request.query in
    request_on request _ (verdict_report q (verdict q) (closure_lines q)) c.answer_closure.result (g.K.Sink.held c.args.out.now) (g.K.Sink.held c.answer_closure.new.out)
    (λ lists. ap (λ verb. verb_report verb q request.shape lists) c.in-Closure.is) (λ lists. ap (λ verb. verb_leaves verb q lists) c.in-Closure.is)
    (λ lists. ap (λ verb. verb_asks verb q lists) c.in-Closure.is) c.answer_closure.ensures.no_offer c.answer_closure.ensures.ends

pub returns-in-Closure-clause-left : goal.returns-in-Closure-clause-left
returns-in-Closure-clause-left g c = left_refl _
