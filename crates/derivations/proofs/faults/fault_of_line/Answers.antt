use Rattle.std.proofs.Common.{◌+◌, sym, ap, ◌∙◌, refl, true, false}
use Rattle.std.specs.List.{list_all}
use Rattle.derivations.specs.Derivations.{comes_before, answers, used_twice}
use Rattle.derivations.proofs.Finding.{fault_is}
use Rattle.derivations.proofs.faults.fault_of_line.Goals as goal

pub returns-then-not-in_bounds-clause-fault : goal.returns-then-not-in_bounds-clause-fault
returns-then-not-in_bounds-clause-fault c = λ named m.
    fault_is c.args.lines.now (c.args.i + 1) named c.args.line.now false _ _ _ _ (sym c.if-not-in_bounds.true ∙ c.in_bounds.ensures) refl refl refl refl

pub returns-in_default-clause-fault : goal.returns-in_default-clause-fault
returns-in_default-clause-fault c = λ named m.
    fault_is c.args.lines.now (c.args.i + 1) named c.args.line.now true false _ _ _ (sym c.if-not-in_bounds.false ∙ c.in_bounds.ensures)
    (sym (c.in_default.ensures.none refl)) refl refl refl

pub returns-then-not-is_backward-clause-fault : goal.returns-then-not-is_backward-clause-fault
returns-then-not-is_backward-clause-fault c = λ named m.
    fault_is c.args.lines.now (c.args.i + 1) named c.args.line.now true true false _ _ (sym c.if-not-in_bounds.false ∙ c.in_bounds.ensures)
    (sym c.in-Some.ensures.candidate)
    (sym c.if-not-is_backward.true ∙ c.is_backward.ensures.test ∙ ap (λ xs. list_all (comes_before (c.args.i + 1)) xs) c.as_slice-from.ensures) refl refl

pub returns-then-not-is_answered-clause-fault : goal.returns-then-not-is_answered-clause-fault
returns-then-not-is_answered-clause-fault c = λ named m.
    fault_is c.args.lines.now (c.args.i + 1) named c.args.line.now true true true false _ (sym c.if-not-in_bounds.false ∙ c.in_bounds.ensures)
    (sym c.in-Some.ensures.candidate)
    (sym c.if-not-is_backward.false ∙ c.is_backward.ensures.test ∙ ap (λ xs. list_all (comes_before (c.args.i + 1)) xs) c.as_slice-from.ensures)
    (sym c.if-not-is_answered.true ∙ c.is_answered.ensures ∙ ap (λ xs. answers c.args.lines.now xs c.as_slice.result.now) c.as_slice-from.ensures
    ∙ ap (λ ps. answers c.args.lines.now c.args.line.now.from ps) (c.as_slice.ensures ∙ c.in-Some.ensures.items)) refl

pub returns-then-mark-clause-fault : goal.returns-then-mark-clause-fault
returns-then-mark-clause-fault c = λ named m.
    fault_is c.args.lines.now (c.args.i + 1) named c.args.line.now true true true true true (sym c.if-not-in_bounds.false ∙ c.in_bounds.ensures)
    (sym c.in-Some.ensures.candidate)
    (sym c.if-not-is_backward.false ∙ c.is_backward.ensures.test ∙ ap (λ xs. list_all (comes_before (c.args.i + 1)) xs) c.as_slice-from.ensures)
    (sym c.if-not-is_answered.false ∙ c.is_answered.ensures ∙ ap (λ xs. answers c.args.lines.now xs c.as_slice.result.now) c.as_slice-from.ensures
    ∙ ap (λ ps. answers c.args.lines.now c.args.line.now.from ps) (c.as_slice.ensures ∙ c.in-Some.ensures.items))
    (sym c.if-mark.true ∙ c.mark.ensures.twice named m ∙ ap (λ xs. used_twice named xs) c.as_slice-from.ensures)

pub returns-clause-fault : goal.returns-clause-fault
returns-clause-fault c = λ named m.
    fault_is c.args.lines.now (c.args.i + 1) named c.args.line.now true true true true false (sym c.if-not-in_bounds.false ∙ c.in_bounds.ensures)
    (sym c.in-Some.ensures.candidate)
    (sym c.if-not-is_backward.false ∙ c.is_backward.ensures.test ∙ ap (λ xs. list_all (comes_before (c.args.i + 1)) xs) c.as_slice-from.ensures)
    (sym c.if-not-is_answered.false ∙ c.is_answered.ensures ∙ ap (λ xs. answers c.args.lines.now xs c.as_slice.result.now) c.as_slice-from.ensures
    ∙ ap (λ ps. answers c.args.lines.now c.args.line.now.from ps) (c.as_slice.ensures ∙ c.in-Some.ensures.items))
    (sym c.if-mark.false ∙ c.mark.ensures.twice named m ∙ ap (λ xs. used_twice named xs) c.as_slice-from.ensures)
