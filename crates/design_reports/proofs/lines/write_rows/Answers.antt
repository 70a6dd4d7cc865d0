use Rattle.std.proofs.Common.{arith, ◌∙◌}
use Rattle.design_io.proofs.Pieces.{AppendsWhole-failed}
use Rattle.design_reports.specs.Texts.{row_line}
use Rattle.design_reports.proofs.Outputs.{rows_more, rows_part}
use Rattle.design_reports.proofs.lines.write_rows.Goals as goal

pub returns-in_err-write_row-clause-bytes : goal.returns-in_err-write_row-clause-bytes
returns-in_err-write_row-clause-bytes g c = AppendsWhole-failed (g.K.Sink.held c.args.out.now) (g.K.Sink.held c.write_row.new.out) c.from_residual.result _ c.from_residual.ensures.0
    (rows_part row_line c.args.rows.now c.args.start c.loop-i.i c.row.result.now (omega arith) c.row.ensures c.args.end (omega arith) (g.K.Sink.held c.args.out.now) (g.K.Sink.held c.loop-i.out) (g.K.Sink.held c.write_row.new.out)
    c.loop-i.invariant.bytes c.in_err-write_row.ensures.bytes)

pub loop-i-preserved : goal.loop-i-preserved
loop-i-preserved g c = record {
  bytes =
      rows_more row_line c.args.rows.now c.args.start c.loop-i.i c.row.result.now (omega arith) c.row.ensures (g.K.Sink.held c.args.out.now) (g.K.Sink.held c.loop-i.out) (g.K.Sink.held c.write_row.new.out)
      c.loop-i.invariant.bytes c.in_ok-write_row.ensures.bytes;
  kept = c.in_ok-write_row.ensures.cause.kept ∙ c.loop-i.invariant.kept;
}
