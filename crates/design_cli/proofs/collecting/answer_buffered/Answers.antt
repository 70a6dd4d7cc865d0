use Rattle.std.proofs.Common.{ap, subst}
use Rattle.design_cli.proofs.FlushedEndings.{flushed_ends, flushed_fault}
use Rattle.design_cli.specs.Report.{command_of}
use Rattle.design_io.specs.Buffers.{handed}
use Rattle.design_reports.specs.Answers.{HasFault}
use Rattle.design_cli.proofs.collecting.answer_buffered.Goals as goal

pub returns-clause-ends : goal.returns-clause-ends
returns-clause-ends g c =
    let command = command_of c.args.words.now in
    let left = g.S.Source.left c.args.input.now in
    let after = g.S.Source.left c.answer-ending.new.input in
    let held = handed c.answer-ending.new.out in
    rw (← c.requires.start) (flushed_ends command left after _ _ c.answer-ending.result c.flushed_ending.result g.O.Origin.start (g.K.Sink.held c.flushed-end.result.1) _ held c.flushed-end.result.0
    (ap handed c.new-buffered.ensures) c.answer-ending.ensures.ends c.flushed-end.ensures.bytes c.flushed_ending.ensures.kept c.flushed_ending.ensures.failed)

pub returns-clause-cause : goal.returns-clause-cause
returns-clause-cause g c =
    flushed_fault c.answer-ending.result c.flushed_ending.result (g.K.Sink.faults c.args.out) (g.K.Sink.faults c.answer-ending.new.out.inner) (g.K.Sink.faults c.flushed-end.result.1) c.flushed-end.result.0
    (subst (λ s. HasFault c.answer-ending.result (g.K.Sink.faults s.inner) (g.K.Sink.faults c.answer-ending.new.out.inner)) c.new-buffered.ensures c.answer-ending.ensures.cause) c.flushed-end.ensures.cause c.flushed_ending.ensures.kept c.flushed_ending.ensures.failed
