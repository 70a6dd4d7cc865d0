use Rattle.std.proofs.Common.{arith, false, inl, inr, subst, sym, ◌∙◌, ◌≡◌}
use Rattle.counting.proofs.Booleans.{cases_eq}
use Rattle.design_base.specs.Fields.{field_product, field_sum}
use Rattle.plane_curves.proofs.SecantSteps.{first_from, on_line, third_on}
use Rattle.plane_curves.specs.Secants.{is_on_line, vector_at}
use Rattle.plane_curves.proofs.secants.are_first.Goals as goal
use Rattle.plane_curves.proofs.secants.are_first.Goals.{else-m-i-via-then-m-i+else-is_on, else-m-i-via-else-m-i}

pub returns-then-is_on : goal.returns-then-is_on
returns-then-is_on c =
    let add = field_sum c.args.field.now in
    let mul = field_product c.args.field.now in
    sym (third_on add mul c.args.vectors.now c.args.i c.args.j c.loop-m.m c.loop-m-test.true c.requires.second c.if-m-i.true
    (on_line add mul _ _ _ c.half_cross-left.result c.half_cross-right.result c.is_on.result c.half_cross-left.ensures.value c.half_cross-right.ensures.value c.is_on.ensures ∙ c.if-is_on.true))

pub loop-m-preserved : goal.loop-m-preserved
loop-m-preserved c k l ne =
    let add = field_sum c.args.field.now in
    let mul = field_product c.args.field.now in
    let V = c.args.vectors.now in
    elim (cases_eq k c.loop-m.m) [
      | inr less ↦ c.loop-m.invariant k (omega arith) ne
      | inl here ↦ elim c.else-m-i.branch [
        | else-m-i-via-then-m-i+else-is_on w ↦
            subst (λ k. is_on_line add mul (vector_at V c.args.i) (vector_at V c.args.j) (vector_at V k) ≡ false) (sym here)
            (on_line add mul _ _ _ c.half_cross-left.result c.half_cross-right.result w.is_on.result c.half_cross-left.ensures.value c.half_cross-right.ensures.value w.is_on.ensures ∙ w.if-is_on.false)
        | else-m-i-via-else-m-i w ↦ absurd (ne (here ∙ w.if-m-i.false))
      ]
    ]

pub returns : goal.returns
returns c = sym (first_from (field_sum c.args.field.now) (field_product c.args.field.now) c.args.vectors.now c.args.i c.args.j (λ k l ne. c.loop-m.invariant k (omega (arith, c.loop-m-test.false)) ne))
