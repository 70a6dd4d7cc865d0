use Rattle.std.proofs.Common.{Err, ap, subst, sym}
use Rattle.block_texts.specs.BlockText.{block_text}
use Rattle.design_cli.specs.Report.{check_report, text_report}
use Rattle.design_cli.specs.Runs.{EndsOn}
use Rattle.design_cli.proofs.Endings.{unread_reads, unread_writes}
use Rattle.design_cli.proofs.WholeInputs.{read_on, unread_on}
use Rattle.design_cli.proofs.checking.answer_check.Goals as goal

pub returns-in-Err-clause-ends : goal.returns-in-Err-clause-ends
returns-in-Err-clause-ends g c =
    subst (λ ending. EndsOn (g.S.Source.left c.args.input.now) (check_report c.args.query.now c.args.shape) ending (g.K.Sink.held c.args.out.now) (g.K.Sink.held c.args.out.now)) (sym c.of_unread.ensures)
    (unread_on _ (λ text. text_report c.args.query.now c.args.shape (block_text text)) (g.S.Source.left c.args.input.now) c.in-Err.end (g.K.Sink.held c.args.out.now) c.in-Err.ensures.text)

pub returns-in-Err-clause-cause : goal.returns-in-Err-clause-cause
returns-in-Err-clause-cause g c = rw c.of_unread.ensures (unread_writes c.in-Err.end (g.K.Sink.faults c.args.out.now))

pub returns-in-Err-clause-read_cause : goal.returns-in-Err-clause-read_cause
returns-in-Err-clause-read_cause g c = rw c.of_unread.ensures (unread_reads c.in-Err.end _ _ (λ e. c.in-Err.ensures.cause (ap Err e)) c.in-Err.ensures.later c.in-Err.ensures.faults)

pub returns-clause-ends : goal.returns-clause-ends
returns-clause-ends g c =
    read_on _ (λ text. text_report c.args.query.now c.args.shape (block_text text)) (g.S.Source.left c.args.input.now) c.in-Ok.text c.answer_text.result (g.K.Sink.held c.args.out.now) _ c.in-Ok.ensures.text c.answer_text.ensures.ends
