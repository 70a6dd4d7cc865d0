use Rattle.std.proofs.Common.{subst, sym, []}
use Rattle.spaces.proofs.Marking.{no_line_met}
use Rattle.spaces.specs.MetPairs.{AreMet}
use Rattle.spaces.proofs.line_list.LineList.new.Goals as goal

pub invariant_of-result : goal.invariant_of-result
invariant_of-result c = subst (λ B. AreMet B c.in_ok-vec.field-0.items) (sym c.new.ensures) (subst (AreMet []) (sym (c.in_ok-vec.ensures.items_if_clones_equal (λ y e. e))) no_line_met)
