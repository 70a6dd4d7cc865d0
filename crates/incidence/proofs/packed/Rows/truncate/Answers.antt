use Rattle.std.proofs.Common.{arith}
use Rattle.std.proofs.lemmas.List.{length-take-le}
use Rattle.incidence.proofs.Fronts.{front_of}
use Rattle.incidence.proofs.packed.Rows.truncate.Goals as goal

pub invariant_of-self : goal.invariant_of-self
invariant_of-self c =
    let ends = c.self.inside.ends.items in
    let numbers = c.self.inside.numbers.items in
    let front = front_of ends numbers c.args.count c.start_of-numbers.result c.self.invariant.0 (omega arith) (rw c.deref.ensures.value at c.start_of-numbers.ensures) in
    let fewer = length-take-le c.args.count ends (omega arith) in
    let shorter = length-take-le c.start_of-numbers.result numbers front.inside in
    rw (c.truncate.ensures.items, c.truncate-then-count-len.ensures.items) (front.fit, omega (arith, fewer, shorter, front.inside, c.self.invariant.1))

pub returns-then-count-len : goal.returns-then-count-len
returns-then-count-len c =
    let ends = c.self.inside.ends.items in
    let numbers = c.self.inside.numbers.items in
    let front = front_of ends numbers c.args.count c.start_of-numbers.result c.self.invariant.0 (omega arith) (rw c.deref.ensures.value at c.start_of-numbers.ensures) in
    rw (c.truncate.ensures.items, c.truncate-then-count-len.ensures.items, ← c.self.view_is) front.rows
