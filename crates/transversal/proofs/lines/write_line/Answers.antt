use Rattle.std.proofs.Common.{ap, arith, slice_set, take, ◌*◌, ◌+◌, ◌∙◌}
use Rattle.std.proofs.lemmas.List.{length-set}
use Rattle.transversal.proofs.Buffers.{written_whole}
use Rattle.transversal.proofs.FieldArray.{kept_below, line_block_first, line_block_next}
use Rattle.transversal.proofs.lines.write_line.Goals as goal
use Rattle.transversal.specs.Constructions.{field_row}

pub loop-j-init : goal.loop-j-init
loop-j-init c = record {
  size = length-set c.args.block.now 0 c.args.x;
  points = line_block_first c.args.k c.args.field.now c.args.x c.args.y c.args.block.now (omega (arith, c.requires.room, c.requires.one_group));
}

pub add-requires-clause-y_below : goal.add-requires-clause-y_below
add-requires-clause-y_below c = kept_below c.args.field.now c.args.x c.loop-j.j c.args.products.now c.order-q.ensures.listed (omega (arith, c.loop-j-test.true, c.requires.columns)) c.requires.products

pub loop-j-preserved : goal.loop-j-preserved
loop-j-preserved c = record {
  size = length-set c.loop-j.block (c.loop-j.j + 1) _ ∙ c.loop-j.invariant.size;
  points = ap (λ q. take (c.loop-j.j + 1 + 1) (slice_set c.loop-j.block (c.loop-j.j + 1) ((c.loop-j.j + 1) * q + c.add.result))) c.order-q.ensures.order
      ∙ line_block_next c.args.k c.args.field.now c.args.x c.args.y c.loop-j.j c.add.result c.loop-j.block c.args.products.now c.loop-j-test.true c.requires.columns
      (omega (arith, c.loop-j.invariant.size, c.loop-j-test.true, c.requires.room)) c.requires.products c.add.ensures.sum c.loop-j.invariant.points;
}

pub returns-clause-front : goal.returns-clause-front
returns-clause-front c = written_whole c.args.k c.args.field.now (c.loop-j.j + 1) (field_row c.args.k c.args.field.now c.args.x c.args.y) c.loop-j.block
    (omega (arith, c.loop-j.auto.j-end, c.requires.one_group)) (omega (arith, c.loop-j-test.false)) c.loop-j.invariant.points
