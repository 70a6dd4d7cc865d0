use Rattle.std.proofs.Common.{arith, length, replicate, rules, ◌≡◌}
use Rattle.incidence.proofs.Walk.{take_next}
use Rattle.design_checks.proofs.ByBits.{none_told}
use Rattle.design_checks.proofs.transversal.note_blocks.Goals as goal

pub loop-m-init : goal.loop-m-init
loop-m-init c =
    let zeros : c.fill.new.self ≡ replicate (length c.args.words.now) 0 = c.fill.ensures.after (search rules) in
    rw zeros (none_told (length c.args.words.now) c.args.k c.args.n c.args.i (omega arith) (omega arith))

pub loop-m-preserved : goal.loop-m-preserved
loop-m-preserved c =
    rw (take_next c.args.rows.now c.loop-m.m c.row.result.now c.row.ensures) (c.note_block.ensures _ c.loop-m.invariant)
