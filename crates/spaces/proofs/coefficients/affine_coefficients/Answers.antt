use Rattle.std.proofs.Common.{List, ap, arith, subst, sym, ℕ, ◌+◌, ◌∙◌, ◌≡◌}
use Rattle.std.proofs.lemmas.Grind.{common_steps}
use Rattle.design_base.specs.Fields.{field_sum}
use Rattle.spaces.proofs.CoefficientSteps.{affine-push, listed_sum_one}
use Rattle.spaces.specs.Coefficients.{AreAffine}
use Rattle.spaces.proofs.coefficients.affine_coefficients.Goals as goal

pub loop-t-preserved : goal.loop-t-preserved
loop-t-preserved c =
    let q = c.args.field.now in
    let sum : field_sum q c.add.result c.loop-t.t ≡ 1 = ap (λ a. field_sum q a c.loop-t.t) c.add.ensures.sum ∙ listed_sum_one q c.loop-t.t c.neg.result c.order-t-end.ensures.listed c.neg.ensures.sum in
    record {
      affine = subst (AreAffine (field_sum q) (c.loop-t.t + 1)) (sym {A = List (ℕ × ℕ)} c.in_ok-push.ensures.items) (affine-push (field_sum q) c.loop-t.t c.add.result c.loop-t.coefficients.items c.loop-t.invariant.affine sum);
      elements = grind (arith, common_steps);
    }
