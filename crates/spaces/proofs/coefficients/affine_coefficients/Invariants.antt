use Rattle.design_base.specs.Fields.{field_sum}
use Rattle.spaces.specs.Coefficients.{AreAffine, AreElements}
use Rattle.spaces.proofs.coefficients.affine_coefficients.Given as goal

abbrev pub invariant-loop-t : goal.invariant-loop-t
invariant-loop-t l = record {
  affine : AreAffine (field_sum l.field) l.t l.coefficients.items;
  elements : AreElements l.field l.coefficients.items;
}
