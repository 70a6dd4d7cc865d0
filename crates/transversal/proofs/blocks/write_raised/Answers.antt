use Rattle.std.proofs.Common.{arith, ◌∙◌}
use Rattle.std.proofs.lemmas.List.{length-set}
use Rattle.transversal.proofs.Raise.{raised_written, raised_written_next}
use Rattle.transversal.proofs.blocks.write_raised.Goals as goal

pub loop-j-preserved : goal.loop-j-preserved
loop-j-preserved c = record {
  size = length-set c.loop-j.block c.loop-j.j _ ∙ c.loop-j.invariant.size;
  points = raised_written_next c.args.n c.args.c c.loop-j.j c.args.row.now c.loop-j.block
      (omega (arith, c.loop-j.invariant.size, c.loop-j-test.true, c.requires.room)) (omega (arith, c.loop-j-test.true, c.requires.row.size)) c.loop-j.invariant.points;
}

pub returns-clause-front : goal.returns-clause-front
returns-clause-front c = raised_written c.args.k c.args.n c.args.c c.loop-j.j c.args.row.now c.loop-j.block c.loop-j.auto.j-end c.loop-j-test.false c.loop-j.invariant.points
