-- The first is among what is left.
use Rattle.std.proofs.Common.{◌-◌, ◌≡◌}
use Rattle.std.specs.Prelude.{unwrap_or}
use Rattle.counting.specs.Search.{first_in, upward}
use Rattle.design_base.specs.Fields.{field_product, field_sum}
use Rattle.plane_curves.specs.Curves.{is_rootless, least_rootless}
use Rattle.plane_curves.proofs.curves.least_rootless.Given as goal

abbrev pub invariant-loop-c : goal.invariant-loop-c
invariant-loop-c l =
    let add = field_sum l.field in
    let mul = field_product l.field in
    unwrap_or (first_in (is_rootless add mul l.field) (upward l.c (l.field - 1))) 0 ≡ least_rootless add mul l.field
