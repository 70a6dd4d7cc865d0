use Rattle.std.proofs.Common.{arith, refl}
use Rattle.design_checks.proofs.ByBits.{tells_kept, tells_more}
use Rattle.design_checks.proofs.transversal.note_block.Goals as goal

pub loop-j-init : goal.loop-j-init
loop-j-init c = λ B told. tells_kept c.args.k c.args.n c.args.i B c.args.block.now c.args.words.now told

pub loop-j-preserved : goal.loop-j-preserved
loop-j-preserved c = λ B told. tells_more c.args.k c.args.n c.args.i B c.args.block.now c.requires.block (omega arith) c.loop-j.words c.loop-j.j _ _ _
    (omega arith) (omega arith) refl (omega arith) refl c.with_bit.ensures.others (c.loop-j.invariant B told)
