use Rattle.std.proofs.Common.{◌∙◌, ap, subst, take, arith}
use Rattle.design_io.proofs.Buffering.{moved_on}
use Rattle.design_io.proofs.Pieces.{AppendsWhole-front, AppendsWhole-second}
use Rattle.design_io.specs.Buffers.{fronts, handed}
use Rattle.design_io.specs.Pieces.{AppendsWhole}
use Rattle.design_io.proofs.buffered.Buffered.flush.Goals as goal

pub returns-clause-bytes : goal.returns-clause-bytes
returns-clause-bytes g c =
    let old = g.K.Sink.held c.self.inside.inner in
    let new = g.K.Sink.held c.write_front-count.new.sink in
    let result = c.write_front-count.result.1 in
    let left = take c.self.inside.len c.self.inside.bytes in
    subst (λ s. AppendsWhole g.O.Origin.start new result (handed s)) c.self.view_is (
    AppendsWhole-second g.O.Origin.start old new result (fronts c.self.inside.passed.items) left c.self.invariant.1
    (AppendsWhole-front old new result left c.write_front-count.result.0 c.write_front-count.ensures.whole c.write_front-count.ensures.part c.write_front-count.ensures.bytes)
    )

pub returns-clause-handed : goal.returns-clause-handed
returns-clause-handed g c =
    moved_on c.self.inside.passed.items c.and-self-inside.result.items c.self.inside.bytes c.move_to_front.new.bytes c.self.inside.len c.write_front-count.result.0
    (omega (arith, c.write_front-count.ensures.within)) c.and-self-inside.ensures c.move_to_front.ensures.moved
    ∙ ap handed c.self.view_is
