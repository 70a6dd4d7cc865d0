use Rattle.std.proofs.Common.{arith, slice_index, ◌∙◌}
use Rattle.std.proofs.lemmas.List.{length-set}
use Rattle.incidence.proofs.RowsAndBlocks.{row_block_next}
use Rattle.incidence.proofs.arrays.push_block.Goals as goal

pub loop-j-preserved : goal.loop-j-preserved
loop-j-preserved c = record {
  size = length-set c.loop-j.block c.loop-j.j _ ∙ c.loop-j.invariant.size;
  points = row_block_next c.args.n (slice_index c.args.row.now) c.loop-j.block c.loop-j.j (omega (arith, c.loop-j.invariant.size, c.loop-j-test.true, c.requires)) c.loop-j.invariant.points;
}
