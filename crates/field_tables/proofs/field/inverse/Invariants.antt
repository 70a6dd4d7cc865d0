use Rattle.std.proofs.Common.{ℕ, ◌≢◌, ◌<◌}
use Rattle.design_base.specs.Fields.{field_product}
use Rattle.field_tables.proofs.field.inverse.Given as goal

abbrev pub invariant-loop-y : goal.invariant-loop-y
invariant-loop-y l = (y : ℕ) → y < l.y → field_product l.ring l.x y ≢ 1
