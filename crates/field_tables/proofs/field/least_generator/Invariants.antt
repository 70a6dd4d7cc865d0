use Rattle.std.proofs.Common.{◌≡◌, ◌-◌}
use Rattle.counting.specs.Search.{first_in, upward}
use Rattle.design_base.specs.Fields.{is_generator}
use Rattle.field_tables.proofs.field.least_generator.Given as goal

abbrev pub invariant-loop-g : goal.invariant-loop-g
invariant-loop-g l = first_in (is_generator l.ring) (upward l.g (l.ring - 1)) ≡ first_in (is_generator l.ring) (upward 1 (l.ring - 1))
