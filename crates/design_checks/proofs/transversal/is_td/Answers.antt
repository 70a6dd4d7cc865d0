use Rattle.std.proofs.Common.{ap₂, arith, ◌*◌}
use Rattle.design_checks.proofs.ByBits.{td_from_bits}
use Rattle.design_checks.proofs.transversal.is_td.Goals as goal

pub returns-then-are_across-clause-design : goal.returns-then-are_across-clause-design
returns-then-are_across-clause-design c = λ met. td_from_bits c.args.k c.args.n c.args.rows.now (c.are_across.ensures (cc)) (omega arith) (omega arith)
    (omega (arith, ap₂ (λ x y. x * y) c.from.ensures c.from-2.ensures)) (c.all_meet.ensures met)
