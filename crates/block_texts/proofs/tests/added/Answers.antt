use Rattle.std.proofs.Common.{arith, length-take}
use Rattle.design_base.specs.declared.limits.TheConstants.{PACKED_MAX}
use Rattle.incidence.specs.Packed.{size_of}
use Rattle.block_texts.proofs.RowNumbers.{room_for_numbers}
use Rattle.block_texts.proofs.tests.added.Goals as goal

pub push_block_line-answer-requires : goal.push_block_line-answer-requires
push_block_line-answer-requires c = room_for_numbers _ (size_of c.new-rows.result) PACKED_MAX (rw c.new-rows.ensures (omega (arith, length-take c.min.result c.args.line.now, c.min.ensures)))
