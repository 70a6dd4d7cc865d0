use Rattle.std.proofs.Common.{ap, arith, length, ◌∙◌, ◌≡◌}
use Rattle.design_base.specs.Fields.{field_product, field_sum}
use Rattle.plane_curves.proofs.SecantSteps.{on_line, secant-left, secant-taken, length-secant}
use Rattle.plane_curves.specs.Secants.{is_on_line, secant, secant_below, vector_at}
use Rattle.plane_curves.proofs.secants.secant.Goals as goal
use Rattle.plane_curves.proofs.secants.secant.Goals.{then-is_on+in_ok-push, else-is_on}

pub loop-m-preserved : goal.loop-m-preserved
loop-m-preserved c =
    let add = field_sum c.args.field.now in
    let mul = field_product c.args.field.now in
    let V = c.args.vectors.now in
    let m = c.loop-m.m in
    let on : is_on_line add mul (vector_at V c.args.i) (vector_at V c.args.j) (vector_at V m) ≡ c.is_on.result =
    on_line add mul _ _ _ c.half_cross-left.result c.half_cross-right.result c.is_on.result c.half_cross-left.ensures.value c.half_cross-right.ensures.value c.is_on.ensures in
    elim c.if-is_on.branch [
      | then-is_on+in_ok-push w ↦ cc (secant-taken add mul V c.args.i c.args.j m (on ∙ w.if-is_on.true), c.loop-m.invariant, w.in_ok-push.ensures.items, w.row-is)
      | else-is_on w ↦ cc (secant-left add mul V c.args.i c.args.j m (on ∙ w.if-is_on.false), c.loop-m.invariant, w.row-is)
    ]

done : (c : goal.After-loop-m) → c.loop-m.row.items ≡ secant (field_sum c.args.field.now) (field_product c.args.field.now) c.args.vectors.now c.args.i c.args.j
done c = c.loop-m.invariant ∙ ap (secant_below (field_sum c.args.field.now) (field_product c.args.field.now) c.args.vectors.now c.args.i c.args.j) (omega (arith, c.loop-m-test.false, c.loop-m.auto.m-end))

pub returns-clause-row : goal.returns-clause-row
returns-clause-row c = done c

pub returns-clause-size : goal.returns-clause-size
returns-clause-size c = omega (arith, ap length (done c), length-secant (field_sum c.args.field.now) (field_product c.args.field.now) c.args.vectors.now c.args.i c.args.j (length c.args.vectors.now), c.requires.few)
