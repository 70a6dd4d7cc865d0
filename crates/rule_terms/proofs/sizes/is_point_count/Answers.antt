use Rattle.std.proofs.Common.{arith}
use Rattle.rule_terms.proofs.PointCounts.{too_many}
use Rattle.rule_terms.proofs.sizes.is_point_count.Goals as goal

pub returns-then-from-count : goal.returns-then-from-count
returns-then-from-count c = too_many _ _ c.loop-i._i _ c.loop-i.count (omega (arith, c.loop-i-test.true)) c.loop-i.invariant (omega (arith, c.if-from-count.true, c.from.ensures))
