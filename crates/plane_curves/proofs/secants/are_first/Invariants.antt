-- None of the vectors before is on the line, but the first.
use Rattle.std.proofs.Common.{false, ℕ, ◌<◌, ◌≡◌, ◌≢◌}
use Rattle.design_base.specs.Fields.{field_product, field_sum}
use Rattle.plane_curves.specs.Secants.{is_on_line, vector_at}
use Rattle.plane_curves.proofs.secants.are_first.Given as goal

abbrev pub invariant-loop-m : goal.invariant-loop-m
invariant-loop-m l = (k : ℕ) → k < l.m → k ≢ l.i → is_on_line (field_sum l.field) (field_product l.field) (vector_at l.vectors l.i) (vector_at l.vectors l.j) (vector_at l.vectors k) ≡ false
