use Rattle.std.proofs.Common.{[], ◌+◌, length, sym, ◌∙◌, subst}
use Rattle.derivations.specs.Marks.{Marks}
use Rattle.derivations.proofs.Finding.{no_marks}
use Rattle.derivations.proofs.faults.first_fault.Goals as goal

pub fault_among-requires-clause-unmarked : goal.fault_among-requires-clause-unmarked
fault_among-requires-clause-unmarked c =
    subst (Marks []) (sym (c.deref_mut.ensures.value ∙ c.in_ok-marks.ensures.items_if_clones_equal (λ y e. e))) (no_marks (length c.args.lines.now + 1))
