use Rattle.three_designs.proofs.DerivedSystems.{points_modulo_six}
use Rattle.three_designs.proofs.DoubledSystems.{double_is_sqs}
use Rattle.three_designs.proofs.MostColumns.{most_columns}
use Rattle.three_designs.proofs.PolynomialArrays.{polynomials_are_oa3}
use Rattle.three_designs.proofs.laws.three_laws.Goals as goal

pub returns : goal.returns
returns c = record {
  columns = most_columns;
  polynomials = polynomials_are_oa3;
  points = points_modulo_six;
  doubling = double_is_sqs;
}
