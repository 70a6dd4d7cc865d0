use Rattle.design_base.specs.Fields.{field_product}
use Rattle.field_tables.proofs.Listed.{listed_field}
use Rattle.field_tables.proofs.Values.{read_below, read_is}
use Rattle.field_tables.proofs.ring.Ring.mul.Goals as goal

pub returns-in-Some-clause-product : goal.returns-in-Some-clause-product
returns-in-Some-clause-product c =
    let tables = rw c.in-Some.is at c.self.invariant.1 in
    read_is field_product c.self.inside.order _ c.args.x c.args.y c.entry.result c.in-Some.tables.products.items _ c.self.view_is c.requires.x_below c.requires.y_below
    tables.1 c.deref.ensures.value c.entry.ensures

pub returns-in-Some-clause-below : goal.returns-in-Some-clause-below
returns-in-Some-clause-below c =
    let tables = rw c.in-Some.is at c.self.invariant.1 in
    read_below field_product c.self.inside.order _ c.args.x c.args.y c.entry.result c.in-Some.tables.products.items _ c.self.view_is c.requires.x_below c.requires.y_below
    tables.1 c.deref.ensures.value c.entry.ensures ((listed_field c.self.inside.order c.self.invariant.0).ring.products_below c.args.x c.args.y)
