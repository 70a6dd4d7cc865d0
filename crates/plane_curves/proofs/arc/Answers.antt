use Rattle.std.proofs.Common.{ap, arith, length, subst, sym, ◌^◌, ◌∙◌, ◌≡◌}
use Rattle.counting.proofs.Booleans.{false≢true}
use Rattle.std.specs.Prelude.{All, IfSome, is_some}
use Rattle.design_base.specs.Blocks.{IsBibd}
use Rattle.plane_curves.specs.Conditions.{arc_size}
use Rattle.design_base.specs.Fields.{field_product, field_sum, has_field}
use Rattle.plane_curves.specs.Curves.{is_on_arc, least_rootless}
use Rattle.plane_curves.specs.Secants.{IsOver, curve_points}
use Rattle.plane_curves.proofs.CurveDesigns.{arc_few, arc_points_over, arc_listed, arc_over, arcs, power_listed}
use Rattle.plane_curves.proofs.arc.Goals as goal

pub unreachable-requires : goal.unreachable-requires
unreachable-requires c = false≢true (sym (ap is_some c.in_default.is) ∙ c.in_ok-field.ensures.listed ∙ ap has_field c.power_of_two-order.ensures ∙ power_listed c.args.r c.args.s c.requires)

order : (c : goal.After-deref) → c.in-Some.field ≡ 2 ^ c.args.s
order c = subst (λ o. IfSome o (λ f. f ≡ c.power_of_two-order.result)) c.in-Some.is c.in_ok-field.ensures.order ∙ c.power_of_two-order.ensures

points : (c : goal.After-deref) → c.in_ok-points.points.items ≡ arc_points_over c.args.r c.args.s c.requires c.in-Some.field
points c = c.in_ok-points.ensures ∙ ap (λ M. curve_points c.in-Some.field (is_on_arc (field_sum c.in-Some.field) (field_product c.in-Some.field) c.in-Some.field (least_rootless (field_sum c.in-Some.field) (field_product c.in-Some.field) c.in-Some.field) M) (c.in-Some.field ^ 3)) c.power_of_two-bound.ensures

pub secants-requires-clause-over : goal.secants-requires-clause-over
secants-requires-clause-over c = subst (All (IsOver c.in-Some.field)) (sym c.deref.ensures.value) (arc_over c.args.r c.args.s c.requires c.in-Some.field c.in_ok-points.points.items (order c) (points c))

pub secants-requires-clause-few : goal.secants-requires-clause-few
secants-requires-clause-few c = omega (arith, ap length c.deref.ensures.value, arc_few c.args.r c.args.s c.requires c.in-Some.field c.in_ok-points.points.items (order c) (points c))

pub returns-clause-blocks : goal.returns-clause-blocks
returns-clause-blocks c =
    let f = c.in-Some.field in
    c.in_ok-rows.ensures ∙ arc_listed c.args.r c.args.s c.requires f c.deref.result.now
    (subst (λ o. IfSome o (λ f. f ≡ c.power_of_two-order.result)) c.in-Some.is c.in_ok-field.ensures.order ∙ c.power_of_two-order.ensures)
    (c.deref.ensures.value ∙ c.in_ok-points.ensures ∙ ap (λ M. curve_points f (is_on_arc (field_sum f) (field_product f) f (least_rootless (field_sum f) (field_product f) f) M) (f ^ 3)) c.power_of_two-bound.ensures)

pub returns-clause-design : goal.returns-clause-design
returns-clause-design c = subst (λ B. IsBibd B (arc_size c.args.r c.args.s) (2 ^ c.args.r) 1) (sym (returns-clause-blocks c)) (arcs c.args.r c.args.s c.requires)
