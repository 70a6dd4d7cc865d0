use Rattle.std.proofs.Common.{ap, arith, length, subst, sym, ◌*◌, ◌+◌, ◌^◌, ◌∙◌, ◌≡◌}
use Rattle.counting.proofs.Booleans.{false≢true}
use Rattle.std.specs.Prelude.{All, IfSome, is_some}
use Rattle.design_base.specs.Blocks.{IsBibd}
use Rattle.plane_curves.specs.Secants.{IsOver}
use Rattle.plane_curves.proofs.CurveDesigns.{square_listed, square_small, unital_few, unital_listed, unital_over, unitals}
use Rattle.plane_curves.proofs.unital.Goals as goal

pub overflow_mul-q : goal.overflow_mul-q
overflow_mul-q c = omega (arith, square_small c.args.q c.requires)

pub unreachable-requires : goal.unreachable-requires
unreachable-requires c = false≢true (sym (ap is_some c.in_default.is) ∙ c.in_ok-field.ensures.listed ∙ square_listed c.args.q c.requires)

order : (c : goal.After-deref) → c.in-Some.field ≡ c.args.q * c.args.q
order c = subst (λ o. IfSome o (λ f. f ≡ c.args.q * c.args.q)) c.in-Some.is c.in_ok-field.ensures.order

pub secants-requires-clause-over : goal.secants-requires-clause-over
secants-requires-clause-over c = subst (All (IsOver c.in-Some.field)) (sym c.deref.ensures.value) (unital_over c.args.q c.requires c.in-Some.field c.in_ok-points.points.items (order c) c.in_ok-points.ensures)

pub secants-requires-clause-few : goal.secants-requires-clause-few
secants-requires-clause-few c = omega (arith, ap length c.deref.ensures.value, unital_few c.args.q c.requires c.in-Some.field c.in_ok-points.points.items (order c) c.in_ok-points.ensures)

pub returns-clause-blocks : goal.returns-clause-blocks
returns-clause-blocks c = c.in_ok-rows.ensures ∙ unital_listed c.args.q c.requires c.in-Some.field c.deref.result.now (subst (λ o. IfSome o (λ f. f ≡ c.args.q * c.args.q)) c.in-Some.is c.in_ok-field.ensures.order) (c.deref.ensures.value ∙ c.in_ok-points.ensures)

pub returns-clause-design : goal.returns-clause-design
returns-clause-design c = subst (λ B. IsBibd B (c.args.q ^ 3 + 1) (c.args.q + 1) 1) (sym (returns-clause-blocks c)) (unitals c.args.q c.requires)
