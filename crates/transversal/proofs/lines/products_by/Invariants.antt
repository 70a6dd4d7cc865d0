-- The products of the elements j so far.
use Rattle.std.proofs.Common.{length, take, ◌≡◌}
use Rattle.counting.specs.Sums.{list_below}
use Rattle.design_base.specs.Fields.{field_product}
use Rattle.design_base.specs.declared.limits.TheConstants.{TD_N_MAX}
use Rattle.transversal.proofs.lines.products_by.Given as goal

abbrev pub invariant-loop-j : goal.invariant-loop-j
invariant-loop-j l = record {
  size : length l.products ≡ TD_N_MAX;
  products : take l.j l.products ≡ list_below l.j (λ j. field_product l.field j l.x);
}
