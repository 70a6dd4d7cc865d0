use Rattle.std.proofs.Common.{ap, true, ◌∙◌}
use Rattle.design_cli.specs.Report.{command_of}
use Rattle.design_cli.proofs.Designed.{printed_rows, printed_squares, yes_is_designed}
use Rattle.design_cli.proofs.Runnings.{run_ends}
use Rattle.design_reports.specs.Answers.{Says}
use Rattle.design_reports.specs.Endings.{status_of}
use Rattle.rule_table.proofs.Meanings.{none_meets}
use Rattle.design_cli.proofs.answering.run.Goals as goal

pub returns-clause-report : goal.returns-clause-report
returns-clause-report g c =
    rw c.status.ensures (run_ends true (command_of c.args.words.now) (g.S.Source.left c.args.input.now) (g.S.Source.left c.answer-ending.new.input) _ _ c.answer-ending.result (g.K.Sink.held c.args.out.now) (g.K.Sink.held c.answer-ending.new.out)
    (λ line. Says line (g.E.Sink.held c.args.err.now) (g.E.Sink.held c.say.new.err) (g.E.Sink.faults c.args.err.now) (g.E.Sink.faults c.say.new.err)) c.answer-ending.ensures.ends
    (rw (c.bytes.ensures.bytes, c.message.ensures) at c.say.ensures))

pub returns-clause-none : goal.returns-clause-none
returns-clause-none g c = none_meets

pub returns-clause-design : goal.returns-clause-design
returns-clause-design g c = yes_is_designed

pub returns-clause-printed_rows : goal.returns-clause-printed_rows
returns-clause-printed_rows g c = printed_rows

pub returns-clause-printed_squares : goal.returns-clause-printed_squares
returns-clause-printed_squares g c = printed_squares

pub returns-clause-no_write_fault : goal.returns-clause-no_write_fault
returns-clause-no_write_fault g c other = c.answer-ending.ensures.cause.kept (λ e. other (c.status.ensures ∙ ap status_of e))

pub returns-clause-no_read_fault : goal.returns-clause-no_read_fault
returns-clause-no_read_fault g c other = c.answer-ending.ensures.read_cause.kept (λ e. other (c.status.ensures ∙ ap status_of e))
