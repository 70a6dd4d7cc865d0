use Rattle.std.proofs.Common.{ap, sym, ◌∙◌}
use Rattle.design_base.specs.Fields.{field_sum}
use Rattle.design_base.specs.Meets.{group_add}
use Rattle.field_tables.proofs.fields.Fields.group_add.Goals as goal

pub returns-in-Cyclic-clause-sum : goal.returns-in-Cyclic-clause-sum
unfolding group_add
returns-in-Cyclic-clause-sum c = sym (ap (λ g. group_add g c.args.v c.args.x c.args.y) c.in-Cyclic.is)

pub returns-in-Some-clause-sum : goal.returns-in-Some-clause-sum
unfolding group_add
returns-in-Some-clause-sum c = c.add.ensures.sum ∙ ap (λ q. field_sum q c.args.x c.args.y) c.in-Some.ensures.order ∙ sym (ap (λ g. group_add g c.args.v c.args.x c.args.y) c.in-Field.is)
