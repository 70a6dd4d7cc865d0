use Rattle.std.proofs.Common.{arith, refl, ◌∙◌}
use Rattle.design_io.proofs.Pieces.{AppendsWhole-failed}
use Rattle.design_reports.specs.Parts.{square_lines}
use Rattle.design_reports.proofs.Outputs.{lists_more, lists_none, lists_part}
use Rattle.design_reports.proofs.parts.write_squares.Goals as goal

pub loop-s-init : goal.loop-s-init
loop-s-init g c = record { bytes = lists_none (square_lines c.args.n c.args.lines.now) (g.K.Sink.held c.args.out.now); kept = refl }

pub returns-in_err-write_square-clause-bytes : goal.returns-in_err-write_square-clause-bytes
returns-in_err-write_square-clause-bytes g c =
    AppendsWhole-failed (g.K.Sink.held c.args.out.now) (g.K.Sink.held c.write_square.new.out) c.from_residual.result _ c.from_residual.ensures.0
    (lists_part (square_lines c.args.n c.args.lines.now) c.loop-s.s c.args.m (omega arith) (g.K.Sink.held c.args.out.now) (g.K.Sink.held c.loop-s.out) (g.K.Sink.held c.write_square.new.out) c.loop-s.invariant.bytes
    c.in_err-write_square.ensures.bytes)

pub loop-s-preserved : goal.loop-s-preserved
loop-s-preserved g c = record {
  bytes =
      lists_more (square_lines c.args.n c.args.lines.now) c.loop-s.s (g.K.Sink.held c.args.out.now) (g.K.Sink.held c.loop-s.out) (g.K.Sink.held c.write_square.new.out) c.loop-s.invariant.bytes
      c.in_ok-write_square.ensures.bytes;
  kept = c.in_ok-write_square.ensures.cause.kept ∙ c.loop-s.invariant.kept;
}
