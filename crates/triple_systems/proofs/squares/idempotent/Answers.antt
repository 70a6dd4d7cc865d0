use Rattle.std.proofs.Common.{arith, rules}
use Rattle.triple_systems.proofs.IdempotentSquare.{idempotent-self, idempotent_latin, prolonged_below}
use Rattle.triple_systems.proofs.squares.idempotent.Goals as goal

pub returns-clause-small : goal.returns-clause-small
returns-clause-small c = omega (arith, c.prolonged.ensures, prolonged_below c.args.n c.args.x c.args.y c.requires.order (search rules) c.requires.within.0 c.requires.within.1)

pub returns-clause-latin : goal.returns-clause-latin
returns-clause-latin c = idempotent_latin c.args.n (omega (arith, c.requires.within.0)) c.requires.order

pub returns-clause-own : goal.returns-clause-own
returns-clause-own c = idempotent-self c.args.n c.requires.order

pub returns-then-n-eq1-clause-latin : goal.returns-then-n-eq1-clause-latin
returns-then-n-eq1-clause-latin c = idempotent_latin c.args.n (omega (arith, c.requires.within.0)) c.requires.order

pub returns-then-n-eq1-clause-own : goal.returns-then-n-eq1-clause-own
returns-then-n-eq1-clause-own c = idempotent-self c.args.n c.requires.order
