use Rattle.std.proofs.Common.{◌*◌, ◌+◌}
use Rattle.std.specs.List.{slice_range}
use Rattle.design_reports.specs.Parts.{square_lines}
use Rattle.design_reports.specs.Texts.{row_line}
use Rattle.design_reports.proofs.Outputs.{counted_rows}
use Rattle.design_reports.proofs.parts.write_square.Goals as goal

pub returns-clause-bytes : goal.returns-clause-bytes
unfolding square_lines
returns-clause-bytes g c =
    let start = c.args.s * c.args.n in
    counted_rows (g.K.Sink.held c.args.out.now) (g.K.Sink.held c.write_counted.new.out) (g.K.Sink.held c.write_rows.new.out) c.write_rows.result _ row_line (slice_range c.args.lines.now start (start + c.args.n))
    (rw c.from.ensures at c.in_ok-write_counted.ensures.bytes) (rw (c.from-2.ensures, c.from-3.ensures, c.from-4.ensures) at c.write_rows.ensures.bytes)
