use Rattle.std.proofs.Common.{◌≡◌}
use Rattle.std.specs.List.{flat_map}
use Rattle.std.specs.Io.KnownBytes.{Appends}
use Rattle.counting.specs.Sums.{join_below}
use Rattle.design_reports.specs.Parts.{square_lines}
use Rattle.design_reports.proofs.parts.write_squares.Given as goal

abbrev pub invariant-loop-s : goal.invariant-loop-s
invariant-loop-s g l = record {
  bytes : Appends (g.K.Sink.held l.fn.out) (g.K.Sink.held l.out) (flat_map (λ line. line) (join_below l.s (square_lines l.n l.lines)));
  kept : g.K.Sink.faults l.out ≡ g.K.Sink.faults l.fn.out;
}
