use Rattle.std.proofs.Common.{ap, arith, ◌++◌, ◌%◌, ◌∙◌}
use Rattle.std.proofs.lemmas.List.{length-set}
use Rattle.incidence.proofs.RowsAndBlocks.{image_next, row_when_done}
use Rattle.incidence.proofs.arrays.push_row_of.Goals as goal

pub loop-j-preserved : goal.loop-j-preserved
loop-j-preserved c = record {
  size = length-set c.loop-j.row c.loop-j.j _ ∙ c.loop-j.invariant.size;
  symbols = image_next (λ x. x % c.args.n) c.args.block.now c.loop-j.row c.loop-j.j _
      (omega (arith, c.loop-j.invariant.size, c.loop-j-test.true, c.requires.groups)) (omega (arith, c.loop-j-test.true)) c.loop-j.invariant.symbols (omega (arith, c.requires.points c.loop-j.j (omega (arith, c.loop-j-test.true))));
}

pub returns : goal.returns
returns c = c.in_ok-push_row.ensures.ok ∙ ap (λ here. c.args.rows.now ++ here) (row_when_done c.args.n c.loop-j.j c.args.block.now c.loop-j.row c.loop-j.auto.j-end (omega (arith, c.loop-j-test.false)) c.loop-j.invariant.symbols)
