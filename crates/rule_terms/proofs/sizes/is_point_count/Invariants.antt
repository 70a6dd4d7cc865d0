use Rattle.std.proofs.Common.{◌≡◌}
use Rattle.design_base.specs.Geometries.{point_count}
use Rattle.rule_terms.proofs.sizes.is_point_count.Given as goal

abbrev pub invariant-loop-i : goal.invariant-loop-i
invariant-loop-i l = l.count ≡ point_count l.q l._i
