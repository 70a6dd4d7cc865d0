use Rattle.std.proofs.Common.{sym, subst}
use Rattle.block_texts.proofs.Walks.{GoesOn, goes_on-bad, goes_on-blanks, goes_on-end, goes_on-first, goes_on-number, goes_on-shorter}
use Rattle.block_texts.proofs.walk.read_row.Goals as goal

pub loop-next-init : goal.loop-next-init
loop-next-init c = goes_on-first c.args.text.now c.clear.new.self.items c.clear.ensures.items

pub returns-in-Some-clause-row : goal.returns-in-Some-clause-row
returns-in-Some-clause-row c =
    goes_on-end c.args.text.now c.loop-next.row.items c.behind_blanks-rest.result.now _ (goes_on-blanks c.args.text.now c.loop-next.row.items c.loop-next.rest.now c.behind_blanks-rest.result.now c.loop-next.invariant c.behind_blanks-rest.ensures) c.in-Some.ensures

pub returns-in_default-number_at_front-clause-bad : goal.returns-in_default-number_at_front-clause-bad
returns-in_default-number_at_front-clause-bad c = λ _.
    goes_on-bad c.args.text.now c.loop-next.row.items c.behind_blanks-rest.result.now c.loop-next.rest.now (goes_on-blanks c.args.text.now c.loop-next.row.items c.loop-next.rest.now c.behind_blanks-rest.result.now c.loop-next.invariant c.behind_blanks-rest.ensures)
    c.behind_blanks-rest.ensures c.in_default.ensures c.in_default-number_at_front.ensures.number

pub loop-next-smaller : goal.loop-next-smaller
loop-next-smaller c =
    goes_on-shorter c.loop-next.rest.now c.behind_blanks-rest.result.now c.in-Some-number_at_front.more.now _ c.behind_blanks-rest.ensures c.in-Some-number_at_front.ensures.number c.in-Some-number_at_front.ensures.rest

pub loop-next-preserved : goal.loop-next-preserved
loop-next-preserved c =
    let goes : GoesOn c.args.text.now c.loop-next.row.items c.behind_blanks-rest.result.now = goes_on-blanks c.args.text.now c.loop-next.row.items c.loop-next.rest.now c.behind_blanks-rest.result.now c.loop-next.invariant c.behind_blanks-rest.ensures in
    subst (λ row. GoesOn c.args.text.now row c.in-Some-number_at_front.more.now) (sym c.in_ok-push.ensures.items)
    (goes_on-number c.args.text.now c.loop-next.row.items c.behind_blanks-rest.result.now c.loop-next.rest.now c.in-Some-number_at_front.more.now _ goes c.behind_blanks-rest.ensures c.in_default.ensures c.in-Some-number_at_front.ensures.number c.in-Some-number_at_front.ensures.rest)
