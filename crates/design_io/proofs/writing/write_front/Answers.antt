use Rattle.std.proofs.Common.{◌∙◌, ap, length, arith}
use Rattle.std.proofs.lemmas.List.{take_rest}
use Rattle.design_io.proofs.Pieces.{Appends-take_more}
use Rattle.design_io.proofs.writing.write_front.Goals as goal

pub loop-at-preserved : goal.loop-at-preserved
loop-at-preserved g c = record {
  in_range = omega (arith, c.in-Ok.ensures.bound);
  bytes =
      Appends-take_more (g.K.Sink.held c.args.sink.now) (g.K.Sink.held c.loop-at.sink) (g.K.Sink.held c.write.new.self) c.args.bytes.now c.loop-at.at c.in-Ok.count
      c.loop-at.invariant.bytes (rw (take_rest c.args.bytes.now c.loop-at.at) at c.in-Ok.ensures.bytes);
  faults = c.in-Ok.ensures.kept ∙ c.loop-at.invariant.faults;
  none = λ empty. absurd (omega (arith, ap length empty));
}
