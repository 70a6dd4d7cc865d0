use Rattle.spaces.specs.Coefficients.{AreElements, AreSlopes}
use Rattle.spaces.proofs.coefficients.projective_coefficients.Given as goal

abbrev pub invariant-loop-t : goal.invariant-loop-t
invariant-loop-t l = record {
  slopes : AreSlopes l.t l.coefficients.items;
  elements : AreElements l.field l.coefficients.items;
}
