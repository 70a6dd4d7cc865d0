use Rattle.std.proofs.Common.{arith, length, ◌-◌, ◌∙◌}
use Rattle.std.proofs.lemmas.List.{length-set}
use Rattle.wilson.proofs.FilledArray.{row_of_filled}
use Rattle.wilson.proofs.Steps.{filled_row_next, row_from_front}
use Rattle.wilson.proofs.filling.push_filled_row.Goals as goal
use Rattle.wilson.specs.Truncations.{filled_row}

pub loop-j-preserved : goal.loop-j-preserved
loop-j-preserved c = record {
  size = length-set c.loop-j.entries c.loop-j.j _ ∙ c.loop-j.invariant.size;
  entries = filled_row_next c.args.m c.args.infinite.now c.args.master.now c.args.row.now c.loop-j.entries c.loop-j.j c.filled.result
      (omega (arith, c.loop-j.invariant.size, c.loop-j-test.true, c.requires.groups)) c.loop-j.invariant.entries c.filled.ensures;
}

pub push_block-requires-clause-row : goal.push_block-requires-clause-row
push_block-requires-clause-row c = row_from_front c.args.k c.args.n c.loop-j.j (λ j. filled_row j c.args.m c.args.infinite.now c.args.master.now c.args.row.now) c.loop-j.entries
    c.loop-j.auto.j-end c.loop-j-test.false c.loop-j.invariant.entries
    (row_of_filled c.args.k c.args.n c.args.m (length c.args.infinite.now) c.args.infinite.now c.args.master.now c.args.row.now
    (λ j l. c.requires.master_points j 0 (omega (arith, c.requires.columns)))
    (λ s l h. c.requires.infinite_points (s - c.args.m) 0 (omega arith)) c.requires.row)
