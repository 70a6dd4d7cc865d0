use Rattle.std.proofs.Common.{arith, ◌∙◌}
use Rattle.std.proofs.lemmas.List.{length-set}
use Rattle.wilson.proofs.Steps.{renumbered_row_next}
use Rattle.wilson.proofs.holes.push_renumbered.Goals as goal

pub loop-j-preserved : goal.loop-j-preserved
loop-j-preserved c = record {
  size = length-set c.loop-j.entries c.loop-j.j _ ∙ c.loop-j.invariant.size;
  symbols = renumbered_row_next c.args.m c.args.first.now c.args.row.now c.loop-j.entries c.loop-j.j c.renumbered.result
      (omega (arith, c.loop-j.invariant.size, c.loop-j-test.true, c.requires.groups)) c.loop-j.invariant.symbols c.renumbered.ensures;
}
