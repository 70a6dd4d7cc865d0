use Rattle.std.proofs.Common.{◌≡◌}
use Rattle.std.specs.List.{flat_map, slice_range}
use Rattle.std.specs.Io.KnownBytes.{Appends}
use Rattle.design_reports.specs.Texts.{row_line}
use Rattle.design_reports.proofs.lines.write_rows.Given as goal

abbrev pub invariant-loop-i : goal.invariant-loop-i
invariant-loop-i g l = record {
  bytes : Appends (g.K.Sink.held l.fn.out) (g.K.Sink.held l.out) (flat_map row_line (slice_range l.rows l.start l.i));
  kept : g.K.Sink.faults l.out ≡ g.K.Sink.faults l.fn.out;
}
