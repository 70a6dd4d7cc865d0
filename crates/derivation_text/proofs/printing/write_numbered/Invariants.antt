use Rattle.std.proofs.Common.{◌≡◌, take}
use Rattle.std.specs.Prelude.{All}
use Rattle.std.specs.List.{flat_map}
use Rattle.std.specs.Io.KnownBytes.{Appends}
use Rattle.derivation_text.specs.Spelling.{IsKept}
use Rattle.derivation_text.specs.Text.{numbered_lines}
use Rattle.derivation_text.proofs.printing.write_numbered.Given as goal

abbrev pub invariant-loop-i : goal.invariant-loop-i
invariant-loop-i g l = record {
  bytes : Appends (g.K.Sink.held l.fn.sink) (g.K.Sink.held l.sink) (flat_map (λ line. line) (take l.i (numbered_lines 1 l.lines)));
  each : All IsKept (take l.i l.lines);
  faults : g.K.Sink.faults l.sink ≡ g.K.Sink.faults l.fn.sink;
}
