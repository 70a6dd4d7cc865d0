use Rattle.std.proofs.Common.{Ok, Err, ap, refl, ◌∙◌}
use Rattle.std.specs.Io.KnownBytes.{prepend_known}
use Rattle.design_io.specs.declared.lines.LineEnd.TheVariants.{Failed, TooLong}
use Rattle.design_cli.proofs.BatchEnds.{ends_bad, ends_broken, ends_failed, ends_refused, ends_short, ends_whole}
use Rattle.design_cli.proofs.Batches.{few_left, is_given, line_answered, none_answered, refused_before, told_as}
use Rattle.design_cli.proofs.batching.answer_batch.Goals as goal

pub loop-line-init : goal.loop-line-init
loop-line-init g c = record {
  answered = rw c.new-reader.ensures (none_answered (g.S.Source.left c.args.input.now) _ (g.K.Sink.held c.args.out.now));
  few = c.requires;
  written = refl;
  read = refl;
}

pub returns-in-Ok-false-clause-ends : goal.returns-in-Ok-false-clause-ends
returns-in-Ok-false-clause-ends g c =
    ends_whole _ _ _ c.loop-line.reader c.advance.new.self _ _ _ _ c.loop-line.invariant.answered _ (told_as _ _ _ _ _ _ (ap Ok c.in-Ok-false.field-0-test) c.in-Ok-false.ensures.given)

pub returns-in-Err-Failed-clause-ends : goal.returns-in-Err-Failed-clause-ends
returns-in-Err-Failed-clause-ends g c =
    let failed = ap Err c.in-Err-Failed.field-0-is in
    ends_failed _ _ (prepend_known c.advance.new.self.held (g.S.Source.left c.advance.new.source)) c.loop-line.reader c.advance.new.self _ _ _ _ c.loop-line.invariant.answered (g.S.Source.left c.advance.new.source) refl
    (refused_before c.loop-line.reader.is_over _ Failed failed c.in-Err-Failed.ensures.over) (told_as (prepend_known c.loop-line.reader.held (g.S.Source.left c.loop-line.input)) c.loop-line.reader c.advance.new.self (prepend_known c.advance.new.self.held (g.S.Source.left c.advance.new.source)) _ _ failed c.in-Err-Failed.ensures.given) (c.in-Err-Failed.ensures.unfinished failed)

pub returns-in-Err-TooLong-clause-ends : goal.returns-in-Err-TooLong-clause-ends
returns-in-Err-TooLong-clause-ends g c =
    let long = ap Err c.in-Err-TooLong.field-0-is in
    rw c.in-Err-TooLong.line-is
    (ends_bad _ _ _ c.loop-line.reader c.advance.new.self _ _ _ _ c.loop-line.invariant.answered _ c.in-Err-TooLong.line (refused_before c.loop-line.reader.is_over _ (TooLong c.in-Err-TooLong.line) long c.in-Err-TooLong.ensures.over)
    (told_as (prepend_known c.loop-line.reader.held (g.S.Source.left c.loop-line.input)) c.loop-line.reader c.advance.new.self (prepend_known c.advance.new.self.held (g.S.Source.left c.advance.new.source)) _ _ long c.in-Err-TooLong.ensures.given) (c.in-Err-TooLong.ensures.too_long c.in-Err-TooLong.line c.in-Err-TooLong.field-0-is))

pub loop-line-preserved : goal.loop-line-preserved
loop-line-preserved g c = record {
  answered =
      line_answered (g.S.Source.left c.args.input.now) (prepend_known c.loop-line.reader.held (g.S.Source.left c.loop-line.input)) (prepend_known c.advance.new.self.held (g.S.Source.left c.advance.new.source))
      c.loop-line.reader c.advance.new.self _ _ _ (g.K.Sink.held c.args.out.now) (g.K.Sink.held c.loop-line.out) (g.K.Sink.held c.answer_line.new.out) c.loop-line.invariant.answered
      (is_given _ c.loop-line.reader c.advance.new.self _ c.in-Ok-true.field-0 c.in-Ok-true.field-0-test c.in-Ok-true.ensures.given c.in-Ok-true.ensures.over c.in-Ok-true.ensures.lines c.in-Ok-true.ensures.room
      c.in-Ok-true.ensures.some c.in-Ok-true.ensures.short c.in-Ok-true.ensures.alone c.in-Ok-true.ensures.ended)
      (rw c.line.ensures at c.in-Ok.ensures.ends) c.answer_line.ensures.left;
  few = few_left _ c.loop-line.catalogues.items c.answer_line.new.catalogues.items c.loop-line.invariant.few c.answer_line.ensures.left;
  written = c.answer_line.ensures.cause.kept (λ e. cc) ∙ c.loop-line.invariant.written;
  read = c.in-Ok-true.ensures.faults ∙ c.loop-line.invariant.read;
}

pub returns-in-Err-Memory-clause-ends : goal.returns-in-Err-Memory-clause-ends
returns-in-Err-Memory-clause-ends g c =
    ends_short (g.S.Source.left c.args.input.now) (prepend_known c.loop-line.reader.held (g.S.Source.left c.loop-line.input)) (prepend_known c.advance.new.self.held (g.S.Source.left c.advance.new.source))
    c.loop-line.reader c.advance.new.self _ _ (g.K.Sink.held c.args.out.now) (g.K.Sink.held c.loop-line.out) c.loop-line.invariant.answered
    (is_given _ c.loop-line.reader c.advance.new.self _ c.in-Ok-true.field-0 c.in-Ok-true.field-0-test c.in-Ok-true.ensures.given c.in-Ok-true.ensures.over c.in-Ok-true.ensures.lines c.in-Ok-true.ensures.room
    c.in-Ok-true.ensures.some c.in-Ok-true.ensures.short c.in-Ok-true.ensures.alone c.in-Ok-true.ensures.ended) _ (g.K.Sink.held c.answer_line.new.out) (g.S.Source.left c.advance.new.source)
    (rw (c.in-Err-Memory.field-0-is, c.line.ensures) at c.in-Err-Memory.ensures.ends) c.answer_line.ensures.left

pub returns-in-Err-Catalogue-clause-ends : goal.returns-in-Err-Catalogue-clause-ends
returns-in-Err-Catalogue-clause-ends g c =
    rw c.in-Err-Catalogue.number-is
    (ends_refused (g.S.Source.left c.args.input.now) (prepend_known c.loop-line.reader.held (g.S.Source.left c.loop-line.input)) (prepend_known c.advance.new.self.held (g.S.Source.left c.advance.new.source))
    c.loop-line.reader c.advance.new.self _ _ (g.K.Sink.held c.args.out.now) (g.K.Sink.held c.loop-line.out) c.loop-line.invariant.answered
    (is_given _ c.loop-line.reader c.advance.new.self _ c.in-Ok-true.field-0 c.in-Ok-true.field-0-test c.in-Ok-true.ensures.given c.in-Ok-true.ensures.over c.in-Ok-true.ensures.lines c.in-Ok-true.ensures.room
    c.in-Ok-true.ensures.some c.in-Ok-true.ensures.short c.in-Ok-true.ensures.alone c.in-Ok-true.ensures.ended) _ (g.K.Sink.held c.answer_line.new.out) (g.S.Source.left c.advance.new.source) c.in-Err-Catalogue.number
    (rw (c.in-Err-Catalogue.field-0-is, c.line.ensures) at c.in-Err-Catalogue.ensures.ends) (rw c.line.ensures at (c.in-Err-Catalogue.ensures.offer c.in-Err-Catalogue.number (ap Err c.in-Err-Catalogue.field-0-is))) c.answer_line.ensures.left)

pub returns-in-Err-Write-clause-ends : goal.returns-in-Err-Write-clause-ends
returns-in-Err-Write-clause-ends g c =
    ends_broken (g.S.Source.left c.args.input.now) (prepend_known c.loop-line.reader.held (g.S.Source.left c.loop-line.input)) (prepend_known c.advance.new.self.held (g.S.Source.left c.advance.new.source))
    c.loop-line.reader c.advance.new.self _ _ (g.K.Sink.held c.args.out.now) (g.K.Sink.held c.loop-line.out) c.loop-line.invariant.answered
    (is_given _ c.loop-line.reader c.advance.new.self _ c.in-Ok-true.field-0 c.in-Ok-true.field-0-test c.in-Ok-true.ensures.given c.in-Ok-true.ensures.over c.in-Ok-true.ensures.lines c.in-Ok-true.ensures.room
    c.in-Ok-true.ensures.some c.in-Ok-true.ensures.short c.in-Ok-true.ensures.alone c.in-Ok-true.ensures.ended) _ (g.K.Sink.held c.answer_line.new.out)
    (rw (c.in-Err-Write.field-0-is, c.line.ensures) at c.in-Err-Write.ensures.ends) (g.S.Source.left c.advance.new.source) c.answer_line.ensures.left
