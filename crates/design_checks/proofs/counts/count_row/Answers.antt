use Rattle.std.proofs.Common.{arith, drop, length, length-drop, take, ◌+◌, ◌-◌, ◌≡◌}
use Rattle.std.proofs.lemmas.List.{take_all}
use Rattle.design_checks.proofs.Counting.{all_left, none_left, one_less, room_left}
use Rattle.design_checks.proofs.counts.count_row.Goals as goal

pub loop-i-init : goal.loop-i-init
loop-i-init c = all_left c.args.row.now c.args.v c.args.low c.args.high c.args.counts.now c.first_from-i.result c.first_from-i.ensures.before c.first_from-i.ensures.within

pub returns-then-x-high : goal.returns-then-x-high
returns-then-x-high c = none_left c.args.row.now c.args.v c.args.low c.args.high c.args.counts.now c.loop-i.counts c.loop-i.i c.requires.row (λ l. c.if-x-high.true) c.loop-i.invariant

pub count_points-requires-clause-small : goal.count_points-requires-clause-small
count_points-requires-clause-small c =
    let row = c.args.row.now in
    let i = c.loop-i.i in
    let rest : take (length row - (i + 1)) (drop (i + 1) row) ≡ drop (i + 1) row = take_all (length row - (i + 1)) (drop (i + 1) row) (omega (arith, length-drop (i + 1) row)) in
    rw rest (room_left row c.args.v c.args.low c.args.high c.args.counts.now c.loop-i.counts i c.requires.row c.loop-i-test.true
    (c.first_from-i.ensures.after i (omega arith) c.loop-i-test.true) c.if-x-high.false c.loop-i.invariant c.requires.small)

pub loop-i-preserved : goal.loop-i-preserved
loop-i-preserved c =
    let row = c.args.row.now in
    let i = c.loop-i.i in
    let rest : take (length row - (i + 1)) (drop (i + 1) row) ≡ drop (i + 1) row = take_all (length row - (i + 1)) (drop (i + 1) row) (omega (arith, length-drop (i + 1) row)) in
    one_less row c.args.v c.args.low c.args.high c.args.counts.now c.loop-i.counts c.count_points.new.counts i c.requires.row c.loop-i-test.true
    (c.first_from-i.ensures.after i (omega arith) c.loop-i-test.true) c.loop-i.invariant (rw rest at c.count_points.ensures)

pub returns : goal.returns
returns c = none_left c.args.row.now c.args.v c.args.low c.args.high c.args.counts.now c.loop-i.counts c.loop-i.i c.requires.row (λ l. absurd (omega arith)) c.loop-i.invariant
