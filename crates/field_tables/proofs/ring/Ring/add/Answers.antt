use Rattle.std.proofs.Common.{arith}
use Rattle.design_base.specs.Fields.{field_sum}
use Rattle.field_tables.proofs.Listed.{listed_small, listed_field}
use Rattle.field_tables.proofs.Values.{read_below, read_is}
use Rattle.field_tables.proofs.ring.Ring.add.Goals as goal

pub add_modulo-requires-clause-room : goal.add_modulo-requires-clause-room
add_modulo-requires-clause-room c = omega (arith, listed_small c.self.inside.order c.self.invariant.0)

pub returns-in-Some-clause-sum : goal.returns-in-Some-clause-sum
returns-in-Some-clause-sum c =
    let tables = rw c.in-Some.is at c.self.invariant.1 in
    read_is field_sum c.self.inside.order _ c.args.x c.args.y c.entry.result c.in-Some.tables.sums.items _ c.self.view_is c.requires.x_below c.requires.y_below
    tables.0 c.deref.ensures.value c.entry.ensures

pub returns-in-Some-clause-below : goal.returns-in-Some-clause-below
returns-in-Some-clause-below c =
    let tables = rw c.in-Some.is at c.self.invariant.1 in
    read_below field_sum c.self.inside.order _ c.args.x c.args.y c.entry.result c.in-Some.tables.sums.items _ c.self.view_is c.requires.x_below c.requires.y_below
    tables.0 c.deref.ensures.value c.entry.ensures ((listed_field c.self.inside.order c.self.invariant.0).ring.sums_below c.args.x c.args.y)
