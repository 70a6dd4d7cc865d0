use Rattle.std.proofs.Common.{None, Ok, ap, arith, refl, sym, ◌∙◌}
use Rattle.std.proofs.KnownBytes.{Appends-nil}
use Rattle.catalogues.proofs.Left.{left_refl}
use Rattle.design_reports.specs.Reports.{silent}
use Rattle.design_reports.specs.declared.ending.Ending.TheVariants.{Refused}
use Rattle.design_cli.proofs.Batches.{blank_line, request_asks, request_line, refused_line}
use Rattle.design_cli.proofs.batching.answer_line.Goals as goal

pub returns-in-Err : goal.returns-in-Err
returns-in-Err g c =
    let held = g.K.Sink.held c.args.out.now in
    record {
      ends = refused_line c.args.line.now c.in-Err.reason _ c.end_line.result held _ (sym c.in-Err.is ∙ c.read_line.ensures.request) (c.end_line.ensures.ends (silent (Refused c.in-Err.reason)) held (refl, Appends-nil held)) (λ entries told. c.end_line.ensures.leaves _ entries told) (c.end_line.ensures.asked None _ _ refl);
      cause = c.end_line.ensures.cause _ (record { later = omega arith; failed = λ e. cc; kept = λ e. refl });
      offer = λ number e. let f = (c.end_line.ensures.stops number).0 e in cc;
      left = left_refl _;
    }

pub returns-in-Ok-None : goal.returns-in-Ok-None
returns-in-Ok-None g c = record {
  ends = blank_line c.args.line.now _ (g.K.Sink.held c.args.out.now) (sym (c.in-Ok-None.is ∙ ap Ok c.in-Ok-None.field-0-is) ∙ c.read_line.ensures.request);
  cause = record { later = omega arith; failed = λ e. cc; kept = λ e. refl };
  offer = λ number e. cc;
  left = left_refl _;
}

pub returns-in-Ok-Some : goal.returns-in-Ok-Some
returns-in-Ok-Some g c =
    let request = c.in-Ok-Some.request in
    let is = sym (c.in-Ok-Some.is ∙ ap Ok c.in-Ok-Some.field-0-is) ∙ c.read_line.ensures.request in
    let ended = c.end_line-in-Ok-Some in
    let answer = c.answer_request-ending in
    record {
      ends = request_line c.args.line.now request is _ _ answer.result ended.result (g.K.Sink.held c.args.out.now) _ _ answer.ensures.ends ended.ensures.ends ended.ensures.leaves ended.ensures.asked;
      cause = ended.ensures.cause _ answer.ensures.cause;
      offer = λ number e. request_asks c.args.line.now request is (answer.ensures.offer number ((ended.ensures.stops number).0 e)).asked;
      left = answer.ensures.left;
    }
