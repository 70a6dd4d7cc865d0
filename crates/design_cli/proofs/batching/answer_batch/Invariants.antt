use Rattle.std.proofs.Common.{◌≡◌, ◌<◌, ◌^◌, length, map}
use Rattle.std.specs.Io.KnownBytes.{prepend_known}
use Rattle.design_cli.proofs.Batches.{IsAnswered}
use Rattle.design_cli.proofs.batching.answer_batch.Given as goal

abbrev pub invariant-loop-line : goal.invariant-loop-line
invariant-loop-line g l = record {
  answered : IsAnswered (g.S.Source.left l.fn.input) l.reader (prepend_known l.reader.held (g.S.Source.left l.input))
      (map (λ b. (goal.Catalogue-dyn g (b.vtable, b.value)).seen b.value) l.fn.catalogues.items) (map (λ b. (goal.Catalogue-dyn g (b.vtable, b.value)).seen b.value) l.catalogues.items)
      (g.K.Sink.held l.fn.out) (g.K.Sink.held l.out);
  few : length l.catalogues.items < 2 ^ 32;
  written : g.K.Sink.faults l.out ≡ g.K.Sink.faults l.fn.out;
  read : g.S.Source.faults l.input ≡ g.S.Source.faults l.fn.input;
}

abbrev pub decreases-loop-line : goal.decreases-loop-line
decreases-loop-line g l = l.reader.room
