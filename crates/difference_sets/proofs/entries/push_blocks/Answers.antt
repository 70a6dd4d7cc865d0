use Rattle.std.proofs.Common.{ap, append_assoc, arith, [], sym, ◌++◌, ◌∙◌, ◌∷◌}
use Rattle.difference_sets.proofs.EntrySteps.{blocks_more, blocks_room, next, size_more}
use Rattle.difference_sets.proofs.entries.push_blocks.Goals as goal

pub push_row-requires : goal.push_row-requires
push_row-requires c = omega (arith, c.requires, c.loop-block.invariant.size, blocks_room c.args.blocks.now c.loop-block.block-index c.loop-block-test.true)

pub loop-block-preserved : goal.loop-block-preserved
loop-block-preserved c = record {
  rows = c.in_ok-push_row.ensures.ok ∙ ap (λ R. R ++ next c.args.blocks.now c.loop-block.block-index c.loop-block-test.true ∷ []) c.loop-block.invariant.rows ∙ append_assoc c.args.rows.now _ _
      ∙ ap (λ R. c.args.rows.now ++ R) (sym (blocks_more c.args.blocks.now c.loop-block.block-index c.loop-block-test.true));
  size = omega (arith, c.in_ok-push_row.ensures.size, c.loop-block.invariant.size, size_more c.args.blocks.now c.loop-block.block-index c.loop-block-test.true);
}
