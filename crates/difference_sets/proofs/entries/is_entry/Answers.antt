use Rattle.std.proofs.Common.{ap, arith, ◌∙◌}
use Rattle.difference_sets.proofs.EntrySteps.{an_entry, entry_count, entry_seen, no_entry}
use Rattle.difference_sets.specs.FamilySteps.{is_family_over}
use Rattle.difference_sets.proofs.entries.is_entry.Goals as goal

pub returns-then-n-lt1 : goal.returns-then-n-lt1
returns-then-n-lt1 c = no_entry _ c.entries-entries.ensures c.args.n c.args.group c.args.v c.args.k c.args.l (λ some few. grind arith)

pub returns : goal.returns
returns c =
    let count = entry_count _ c.entries-entries.ensures c.args.n in
    c.is_over.ensures
    ∙ ap (λ f. is_family_over f c.args.group c.args.v c.args.k c.args.l) (entry_seen _ c.entries-entries.ensures c.args.n c.from-2.result (grind arith) (omega (arith, c.if-n-lt1.false)) (omega (arith, c.from.ensures, count, c.if-entries-from.false)))
    ∙ an_entry _ c.entries-entries.ensures c.args.n c.args.group c.args.v c.args.k c.args.l (omega (arith, c.if-n-lt1.false)) (omega (arith, c.from.ensures, count, c.if-entries-from.false))
