use Rattle.std.proofs.Common.{[], ◌+◌, ◌++◌, sym, ◌∙◌, refl}
use Rattle.std.specs.Prelude.{Some, None}
use Rattle.derivations.proofs.Finding.{fault_begins, fault_at_place, fault_ends}
use Rattle.derivations.proofs.faults.fault_among.Goals as goal

pub loop-i-init : goal.loop-i-init
loop-i-init c = record { named = []; marked = c.requires.unmarked; rest = fault_begins c.args.lines.now }

pub returns-in-Some : goal.returns-in-Some
returns-in-Some c =
    let i = c.loop-i.invariant in
    sym (i.rest ∙ fault_at_place c.args.lines.now c.loop-i.i i.named c.index-lines-i.result (Some c.in-Some.fault) c.loop-i-test.true c.index-lines-i.is (c.in-Some.ensures.fault i.named i.marked))

pub loop-i-preserved : goal.loop-i-preserved
loop-i-preserved c =
    let i = c.loop-i.invariant in
    record {
      named = c.index-lines-i.result.from ++ i.named;
      marked = c.in_default.ensures.marks i.named i.marked refl;
      rest = i.rest ∙ fault_at_place c.args.lines.now c.loop-i.i i.named c.index-lines-i.result None c.loop-i-test.true c.index-lines-i.is (c.in_default.ensures.fault i.named i.marked);
    }

pub returns : goal.returns
returns c =
    let i = c.loop-i.invariant in
    c.surplus.ensures i.named i.marked ∙ sym (i.rest ∙ fault_ends c.args.lines.now c.loop-i.i (c.loop-i.i + 1) i.named c.loop-i-test.false)
