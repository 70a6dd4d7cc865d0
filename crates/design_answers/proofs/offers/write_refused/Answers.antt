use Rattle.std.proofs.Common.{◌∙◌}
use Rattle.design_io.proofs.Pieces.{AppendsWhole-failed}
use Rattle.design_answers.proofs.Offered.{refused_more, refused_part}
use Rattle.design_answers.proofs.offers.write_refused.Goals as goal

pub returns-in_err-write_refused_offer-clause-bytes : goal.returns-in_err-write_refused_offer-clause-bytes
returns-in_err-write_refused_offer-clause-bytes g c =
    AppendsWhole-failed (g.K.Sink.held c.args.out.now) (g.K.Sink.held c.write_refused_offer.new.out) c.from_residual.result _ c.from_residual.ensures.0
    (refused_part c.args.refused.now c.loop-offer.offer-index _ c.loop-offer-test.true (g.K.Sink.held c.args.out.now) (g.K.Sink.held c.loop-offer.out) (g.K.Sink.held c.write_refused_offer.new.out) c.loop-offer.invariant.bytes
    c.in_err-write_refused_offer.ensures.bytes)

pub loop-offer-preserved : goal.loop-offer-preserved
loop-offer-preserved g c = record {
  bytes =
      refused_more c.args.refused.now c.loop-offer.offer-index _ c.loop-offer-test.true (g.K.Sink.held c.args.out.now) (g.K.Sink.held c.loop-offer.out) (g.K.Sink.held c.write_refused_offer.new.out)
      c.loop-offer.invariant.bytes c.in_ok-write_refused_offer.ensures.bytes;
  kept = c.in_ok-write_refused_offer.ensures.cause.kept ∙ c.loop-offer.invariant.kept;
}
