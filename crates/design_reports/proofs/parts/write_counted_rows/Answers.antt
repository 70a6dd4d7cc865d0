use Rattle.design_reports.specs.Texts.{row_line}
use Rattle.design_reports.proofs.Outputs.{all_rows, counted_rows}
use Rattle.design_reports.proofs.parts.write_counted_rows.Goals as goal

pub returns-clause-bytes : goal.returns-clause-bytes
returns-clause-bytes g c =
    counted_rows (g.K.Sink.held c.args.out.now) (g.K.Sink.held c.write_counted.new.out) (g.K.Sink.held c.write_rows.new.out) c.write_rows.result _ row_line c.args.rows.now
    (rw c.len.ensures.len at c.in_ok-write_counted.ensures.bytes) (rw (all_rows c.args.rows.now c.len-2.result c.len-2.ensures.len) at c.write_rows.ensures.bytes)
