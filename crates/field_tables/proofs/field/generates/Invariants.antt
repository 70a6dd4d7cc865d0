use Rattle.std.proofs.Common.{◌≡◌, ◌-◌}
use Rattle.counting.specs.Search.{each_passes, is_among, upward}
use Rattle.design_base.specs.Fields.{is_generator, powers}
use Rattle.field_tables.proofs.field.generates.Given as goal

abbrev pub invariant-loop-x : goal.invariant-loop-x
invariant-loop-x l = each_passes (λ x. is_among x (powers l.ring l.g)) (upward l.x (l.ring - 1)) ≡ is_generator l.ring l.g
