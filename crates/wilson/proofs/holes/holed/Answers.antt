use Rattle.std.proofs.Common.{arith, ◌∙◌}
use Rattle.wilson.proofs.Designs.{holed_rows}
use Rattle.wilson.proofs.Steps.{holed_all, holed_next}
use Rattle.wilson.proofs.holes.holed.Goals as goal

pub loop-i-preserved : goal.loop-i-preserved
loop-i-preserved c = record {
  some = omega arith;
  rows = c.in_ok-push_renumbered.ensures.ok ∙ holed_next c.args.k c.args.m c.args.array.now c.loop-i.i c.row.result.now c.row-in-loop-i.result.now c.loop-i.rows
      c.loop-i.invariant.some (omega arith) c.row.ensures c.row-in-loop-i.ensures c.loop-i.invariant.rows;
  size = omega (arith, c.in_ok-push_renumbered.ensures.size, c.loop-i.invariant.size, c.requires.groups);
}

pub returns-clause-rows : goal.returns-clause-rows
returns-clause-rows c = holed_rows c.args.k c.args.m c.args.array.now c.loop-i.rows c.requires.array (c.loop-i.invariant.rows ∙ holed_all c.args.k c.args.m c.args.array.now c.loop-i.i (omega arith))
