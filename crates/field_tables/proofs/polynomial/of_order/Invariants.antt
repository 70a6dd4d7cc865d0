use Rattle.std.proofs.Common.{◌≡◌, drop, true}
use Rattle.std.specs.Prelude.{◌==◌}
use Rattle.counting.specs.Search.{each_passes}
use Rattle.design_base.specs.Fields.{order}
use Rattle.field_tables.specs.Tables.{found_in, modulus_in}
use Rattle.field_tables.proofs.polynomial.of_order.Given as goal

abbrev pub invariant-loop-polynomial : goal.invariant-loop-polynomial
invariant-loop-polynomial l = record {
  left : found_in l.q (drop l.polynomial-index l.polynomials) ≡ found_in l.q l.polynomials;
  orders : each_passes (λ f. f.order == order (modulus_in f)) (drop l.polynomial-index l.polynomials) ≡ true;
}
