use Rattle.std.proofs.Common.{[], ◌∙◌, subst}
use Rattle.std.proofs.lemmas.List.{take_all}
use Rattle.std.proofs.lemmas.List.Elements.{All-more}
use Rattle.design_io.proofs.Pieces.{Appends-flat_map, AppendsWhole-flat_map}
use Rattle.derivation_text.proofs.Texts.{all_lines, line_at, line_within}
use Rattle.derivation_text.specs.Spelling.{IsKept}
use Rattle.derivation_text.specs.Text.{numbered_lines}
use Rattle.derivation_text.proofs.printing.write_numbered.Goals as goal

pub returns-in_err-write_whole-clause-bytes : goal.returns-in_err-write_whole-clause-bytes
returns-in_err-write_whole-clause-bytes g c =
    let D = c.args.lines.now in
    AppendsWhole-flat_map (g.K.Sink.held c.args.sink.now) (g.K.Sink.held c.loop-i.sink) (g.K.Sink.held c.write_whole.new.sink) c.from_residual.result (λ line. line) (numbered_lines 1 D) c.loop-i.i [] c.bytes.result.now
    c.from_residual.ensures.0 c.loop-i.invariant.bytes (line_within D c.loop-i.i c.loop-i-test.true)
    (line_at D c.loop-i.i c.index-lines-i.result c.bytes.result.now c.loop-i-test.true c.index-lines-i.is (c.bytes.ensures.bytes ∙ c.set_numbered.ensures.text)) c.in_err-write_whole.ensures.bytes

pub loop-i-preserved : goal.loop-i-preserved
loop-i-preserved g c =
    let D = c.args.lines.now in
    record {
      bytes =
          Appends-flat_map (g.K.Sink.held c.args.sink.now) (g.K.Sink.held c.loop-i.sink) (g.K.Sink.held c.write_whole.new.sink) (λ line. line) (numbered_lines 1 D) c.loop-i.i [] c.bytes.result.now
          c.loop-i.invariant.bytes (line_within D c.loop-i.i c.loop-i-test.true)
          (line_at D c.loop-i.i c.index-lines-i.result c.bytes.result.now c.loop-i-test.true c.index-lines-i.is (c.bytes.ensures.bytes ∙ c.set_numbered.ensures.text)) c.in_ok-write_whole.ensures.bytes;
      each = All-more IsKept D c.loop-i.i c.index-lines-i.result c.loop-i-test.true c.loop-i.invariant.each (subst IsKept c.index-lines-i.is c.set_numbered.ensures.kept);
      faults = c.in_ok-write_whole.ensures.kept ∙ c.loop-i.invariant.faults;
    }

pub returns-clause-bytes : goal.returns-clause-bytes
returns-clause-bytes g c = rw (all_lines c.args.lines.now c.loop-i.i c.loop-i-test.false) at c.loop-i.invariant.bytes

pub returns-clause-each : goal.returns-clause-each
returns-clause-each g c = rw (take_all c.loop-i.i c.args.lines.now c.loop-i-test.false) at c.loop-i.invariant.each
