use Rattle.std.proofs.Common.{arith, inr, refl}
use Rattle.design_cli.proofs.Batches.{asked_whole, said_part, told_whole}
use Rattle.design_reports.specs.declared.ending.Ending.TheVariants.{WriteFault}
use Rattle.design_cli.proofs.batching.end_line.Goals as goal

pub returns-in-Err : goal.returns-in-Err
returns-in-Err g c = record {
  ends = λ report before ends.
      said_part report c.args.ending before (g.K.Sink.held c.args.out.now) (g.K.Sink.held c.write_whole.new.sink) c.in_default.not-NoMemory c.in_default.not-WriteFault c.requires.no_read c.in_default.not-CatalogueFault ends
      (rw (c.bytes.ensures.bytes, c.message.ensures) at c.in-Err.ensures.bytes);
  stops = λ number. (λ e. cc, λ e. absurd (c.in_default.not-CatalogueFault number e));
  leaves = λ new entries told. told_whole c.args.ending new entries c.in_default.not-NoMemory c.in_default.not-CatalogueFault told;
  cause = λ before had. record {
    later = omega (arith, had.later, c.write_whole.ensures.cause.later);
    failed = λ stops. omega (arith, had.later, c.in-Err.ensures.cause.failed);
    kept = λ other. absurd (other refl);
  };
  asked = λ asks old new asked. asked_whole c.args.ending WriteFault asks old new c.in_default.not-NoMemory c.in_default.not-CatalogueFault (inr refl) asked;
}
