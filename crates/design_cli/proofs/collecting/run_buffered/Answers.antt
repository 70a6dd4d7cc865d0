use Rattle.std.proofs.Common.{ap, false, sym, ◌∙◌}
use Rattle.design_cli.specs.Report.{command_of}
use Rattle.design_cli.proofs.Designed.{printed_rows, printed_squares, yes_is_designed}
use Rattle.design_cli.proofs.Runnings.{apart, read_back, run_ends}
use Rattle.design_reports.specs.Answers.{Says}
use Rattle.design_reports.specs.Endings.{status_of}
use Rattle.design_cli.proofs.collecting.run_buffered.Goals as goal

pub returns-clause-report : goal.returns-clause-report
returns-clause-report g c =
    rw c.status.ensures (run_ends false (command_of c.args.words.now) (g.S.Source.left c.args.input.now) (g.S.Source.left c.answer_buffered-ending.new.input) _ _ c.answer_buffered-ending.result.0 (g.K.Sink.held c.args.out) (g.K.Sink.held c.answer_buffered-ending.result.1)
    (λ line. Says line (g.E.Sink.held c.args.err.now) (g.E.Sink.held c.say.new.err) (g.E.Sink.faults c.args.err.now) (g.E.Sink.faults c.say.new.err)) c.answer_buffered-ending.ensures.ends
    (rw (c.bytes.ensures.bytes, c.message.ensures) at c.say.ensures))

pub returns-clause-design : goal.returns-clause-design
returns-clause-design g c = yes_is_designed

pub returns-clause-printed_rows : goal.returns-clause-printed_rows
returns-clause-printed_rows g c = printed_rows

pub returns-clause-printed_squares : goal.returns-clause-printed_squares
returns-clause-printed_squares g c = printed_squares

pub returns-clause-no_write_fault : goal.returns-clause-no_write_fault
returns-clause-no_write_fault g c other = c.answer_buffered-ending.ensures.cause.kept (λ e. other (c.status.ensures ∙ ap status_of e))

pub returns-clause-read_fault : goal.returns-clause-read_fault
returns-clause-read_fault g c is = let e = read_back c.answer_buffered-ending.result.0 (sym c.status.ensures ∙ is) in (c.answer_buffered-ending.ensures.read_cause (λ other. apart (sym e ∙ other))).failed e

pub returns-clause-no_read_fault : goal.returns-clause-no_read_fault
returns-clause-no_read_fault g c other broken = (c.answer_buffered-ending.ensures.read_cause (λ e. broken (c.status.ensures ∙ ap status_of e))).kept (λ e. other (c.status.ensures ∙ ap status_of e))
