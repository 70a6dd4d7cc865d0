use Rattle.std.proofs.Common.{◌≡◌, take}
use Rattle.std.specs.List.{flat_map}
use Rattle.std.specs.Io.KnownBytes.{Appends}
use Rattle.design_answers.specs.Offers.{refused_lines}
use Rattle.design_answers.proofs.offers.write_refused.Given as goal

abbrev pub invariant-loop-offer : goal.invariant-loop-offer
invariant-loop-offer g l = record {
  bytes : Appends (g.K.Sink.held l.fn.out) (g.K.Sink.held l.out) (flat_map (λ line. line) (refused_lines (take l.offer-index l.refused)));
  kept : g.K.Sink.faults l.out ≡ g.K.Sink.faults l.fn.out;
}
