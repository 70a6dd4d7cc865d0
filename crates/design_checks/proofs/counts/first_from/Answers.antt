use Rattle.std.proofs.Common.{arith, of_calls, rules}
use Rattle.counting.proofs.Booleans.{ltb-false, ltb-true}
use Rattle.std.proofs.lemmas.Fn.{always_returns_same}
use Rattle.std.specs.Prelude.{nat_lt}
use Rattle.design_checks.proofs.Increasing.{below_in_front}
use Rattle.design_checks.proofs.counts.first_from.Goals as goal

pub returns-clause-before : goal.returns-clause-before
returns-clause-before c =
    let point = c.partition_point.ensures.partitioned (λ y. nat_lt y c.args.low) (always_returns_same _ _ _ (λ a r f k. search (rules, of_calls))) (below_in_front c.args.row.now c.args.low c.requires) in
    λ i l. ltb-true _ _ (point.0 i 0 (omega arith) l)

pub returns-clause-after : goal.returns-clause-after
returns-clause-after c =
    let point = c.partition_point.ensures.partitioned (λ y. nat_lt y c.args.low) (always_returns_same _ _ _ (λ a r f k. search (rules, of_calls))) (below_in_front c.args.row.now c.args.low c.requires) in
    λ i l m. ltb-false _ _ (point.1 i 0 l m)
