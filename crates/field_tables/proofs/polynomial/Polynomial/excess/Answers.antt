use Rattle.std.proofs.Common.{arith}
use Rattle.field_tables.specs.Tables.{modulus_in}
use Rattle.field_tables.proofs.Listed.{modulus_known}
use Rattle.field_tables.proofs.polynomial.Polynomial.excess.Goals as goal

pub negated-requires-clause-two : goal.negated-requires-clause-two
negated-requires-clause-two c = (modulus_known c.args.self.now.order (modulus_in c.args.self.now) c.requires).two

pub negated-requires-clause-room : goal.negated-requires-clause-room
negated-requires-clause-room c =
    let known = modulus_known c.args.self.now.order (modulus_in c.args.self.now) c.requires in
    omega (arith, known.whole, known.small)

pub returns-clause-below : goal.returns-clause-below
returns-clause-below c =
    let known = modulus_known c.args.self.now.order (modulus_in c.args.self.now) c.requires in
    omega (arith, known.whole, c.negated.ensures.below)
