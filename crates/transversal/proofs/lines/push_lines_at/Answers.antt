use Rattle.std.proofs.Common.{arith, ◌∙◌}
use Rattle.std.proofs.lemmas.List.{length-take-le}
use Rattle.transversal.proofs.Steps.{steps}
use Rattle.transversal.proofs.lines.push_lines_at.Goals as goal

pub loop-y-preserved : goal.loop-y-preserved
loop-y-preserved c = record {
  rows = grind (arith, steps);
  block = c.write_line.ensures.len ∙ c.loop-y.invariant.block;
  size = omega (arith, c.loop-y.invariant.size, c.in_ok-push_row.ensures.size, length-take-le c.args.k c.write_line.new.block (omega (arith, c.write_line.ensures.len, c.loop-y.invariant.block, c.requires.groups)), c.requires.groups);
}
