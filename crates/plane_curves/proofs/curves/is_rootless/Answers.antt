use Rattle.std.proofs.Common.{ap, ap₂, arith, not, sym, ◌-◌, ◌==◌, ◌∙◌, ◌≡◌}
use Rattle.counting.proofs.Booleans.{eq-eqb, ne_eqb}
use Rattle.counting.proofs.Upward.{each_upward_here, each_upward_later, upward-none}
use Rattle.counting.specs.Search.{each_passes}
use Rattle.design_base.specs.Fields.{field_product, field_sum}
use Rattle.field_tables.proofs.Listed.{order_above}
use Rattle.plane_curves.specs.Curves.{is_rootless}
use Rattle.plane_curves.proofs.CurveSteps.{upward_all}
use Rattle.plane_curves.proofs.curves.is_rootless.Goals as goal

pub loop-x-init : goal.loop-x-init
unfolding is_rootless
loop-x-init c = ap (each_passes _) (upward_all c.args.field.now (omega (arith, order_above c.args.field.now c.order-x-end.ensures.listed)))

pub returns-then-add-eq0 : goal.returns-then-add-eq0
returns-then-add-eq0 c =
    let q = c.args.field.now in
    let value : field_sum q (field_product q c.loop-x.x c.loop-x.x) (field_sum q c.loop-x.x c.args.c) ≡ 0 =
    ap₂ (field_sum q) (sym c.mul.ensures.product) (sym c.add.ensures.sum) ∙ sym c.add-in-loop-x.ensures.sum ∙ c.if-add-eq0.true in
    sym (each_upward_here (λ x. not (field_sum q (field_product q x x) (field_sum q x c.args.c) == 0)) c.loop-x.x (q - 1) (omega arith) (ap not (eq-eqb _ 0 value))) ∙ c.loop-x.invariant

pub loop-x-preserved : goal.loop-x-preserved
loop-x-preserved c =
    let q = c.args.field.now in
    let value : c.add-in-loop-x.result ≡ field_sum q (field_product q c.loop-x.x c.loop-x.x) (field_sum q c.loop-x.x c.args.c) =
    c.add-in-loop-x.ensures.sum ∙ ap₂ (field_sum q) c.mul.ensures.product c.add.ensures.sum in
    sym (each_upward_later (λ x. not (field_sum q (field_product q x x) (field_sum q x c.args.c) == 0)) c.loop-x.x (q - 1) (omega arith) (ap not (ne_eqb _ 0 (λ e. c.if-add-eq0.false (value ∙ e))))) ∙ c.loop-x.invariant

pub returns : goal.returns
unfolding each_passes
returns c =
    let q = c.args.field.now in
    sym (ap (each_passes (λ x. not (field_sum q (field_product q x x) (field_sum q x c.args.c) == 0))) (upward-none c.loop-x.x (q - 1) (omega (arith, order_above q c.order-x-end.ensures.listed)))) ∙ c.loop-x.invariant
