use Rattle.std.proofs.Common.{arith, ap, sym, ◌-◌, ◌∙◌}
use Rattle.std.specs.Prelude.{unwrap_or}
use Rattle.counting.specs.Search.{first_in}
use Rattle.design_base.specs.Fields.{gen, is_generator}
use Rattle.field_tables.proofs.Listed.{listed_field}
use Rattle.counting.proofs.Upward.{first_upward_here, first_upward_later, upward-none}
use Rattle.field_tables.proofs.field.least_generator.Goals as goal

pub returns-then-branch : goal.returns-then-branch
unfolding gen
returns-then-branch c =
    let q = c.args.ring.now in
    ap (λ o. unwrap_or o 1) (sym (first_upward_here (is_generator q) c.loop-g.g (q - 1) (omega arith) (sym c.in_ok-generates.ensures ∙ c.if-branch.true)) ∙ c.loop-g.invariant)

pub loop-g-preserved : goal.loop-g-preserved
loop-g-preserved c =
    let q = c.args.ring.now in
    sym (first_upward_later (is_generator q) c.loop-g.g (q - 1) (omega arith) (sym c.in_ok-generates.ensures ∙ c.if-branch.false)) ∙ c.loop-g.invariant

pub returns : goal.returns
unfolding gen first_in
returns c =
    let q = c.args.ring.now in
    ap (λ o. unwrap_or o 1) (sym (ap (first_in (is_generator q)) (upward-none c.loop-g.g (q - 1) (omega (arith, (listed_field q c.order-g-end.ensures.listed).ring.one_below)))) ∙ c.loop-g.invariant)
