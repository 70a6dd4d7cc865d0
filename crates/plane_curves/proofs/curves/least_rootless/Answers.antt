use Rattle.std.proofs.Common.{ap, arith, sym, ◌-◌, ◌∙◌}
use Rattle.std.specs.Prelude.{unwrap_or}
use Rattle.counting.proofs.Upward.{first_upward_here, first_upward_later, upward-none}
use Rattle.counting.specs.Search.{first_in}
use Rattle.design_base.specs.Fields.{field_product, field_sum}
use Rattle.field_tables.proofs.Listed.{order_above}
use Rattle.plane_curves.specs.Curves.{is_rootless, least_rootless}
use Rattle.plane_curves.proofs.CurveSteps.{upward_all}
use Rattle.plane_curves.proofs.curves.least_rootless.Goals as goal

pub loop-c-init : goal.loop-c-init
unfolding least_rootless
loop-c-init c = ap (λ xs. unwrap_or (first_in (is_rootless (field_sum c.args.field.now) (field_product c.args.field.now) c.args.field.now) xs) 0)
    (upward_all c.args.field.now (omega (arith, order_above c.args.field.now c.order-c-end.ensures.listed)))

pub returns-then-is_rootless-clause-value : goal.returns-then-is_rootless-clause-value
returns-then-is_rootless-clause-value c =
    let q = c.args.field.now in
    ap (λ o. unwrap_or o 0) (sym (first_upward_here (is_rootless (field_sum q) (field_product q) q) c.loop-c.c (q - 1) (omega arith) (sym c.is_rootless.ensures ∙ c.if-is_rootless.true))) ∙ c.loop-c.invariant

pub loop-c-preserved : goal.loop-c-preserved
loop-c-preserved c =
    let q = c.args.field.now in
    ap (λ o. unwrap_or o 0) (sym (first_upward_later (is_rootless (field_sum q) (field_product q) q) c.loop-c.c (q - 1) (omega arith) (sym c.is_rootless.ensures ∙ c.if-is_rootless.false))) ∙ c.loop-c.invariant

pub returns-clause-value : goal.returns-clause-value
unfolding first_in
returns-clause-value c =
    let q = c.args.field.now in
    ap (λ o. unwrap_or o 0) (sym (ap (first_in (is_rootless (field_sum q) (field_product q) q)) (upward-none c.loop-c.c (q - 1) (omega (arith, order_above q c.order-c-end.ensures.listed))))) ∙ c.loop-c.invariant
