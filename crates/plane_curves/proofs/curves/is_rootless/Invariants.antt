-- What is left decides.
use Rattle.std.proofs.Common.{not, ◌-◌, ◌==◌, ◌≡◌}
use Rattle.counting.specs.Search.{each_passes, upward}
use Rattle.design_base.specs.Fields.{field_product, field_sum}
use Rattle.plane_curves.specs.Curves.{is_rootless}
use Rattle.plane_curves.proofs.curves.is_rootless.Given as goal

abbrev pub invariant-loop-x : goal.invariant-loop-x
invariant-loop-x l =
    let add = field_sum l.field in
    let mul = field_product l.field in
    each_passes (λ x. not (add (mul x x) (add x l.c) == 0)) (upward l.x (l.field - 1)) ≡ is_rootless add mul l.field l.c
