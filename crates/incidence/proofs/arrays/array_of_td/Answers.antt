use Rattle.std.proofs.Common.{arith, length, subst, sym, ◌≡◌}
use Rattle.design_base.proofs.Groups.{oa_from_td}
use Rattle.design_base.specs.Arrays.{IsOa}
use Rattle.counting.proofs.Lists.{left_after}
use Rattle.incidence.proofs.RowsAndBlocks.{HasPlaces, points_of_td, row_room_next, sizes_of_td, steps}
use Rattle.incidence.proofs.arrays.array_of_td.Goals as goal

pub loop-block-init : goal.loop-block-init
loop-block-init c = record { rows = grind (arith, steps); sizes = let each = sizes_of_td c.args.k c.args.n c.args.td.now c.requires.design in grind arith; points = let each = points_of_td c.args.k c.args.n c.args.td.now c.requires.design c.requires.one_point in grind arith }

pub push_row_of-requires-clause-room : goal.push_row_of-requires-clause-room
push_row_of-requires-clause-room c = omega (
  arith,
  row_room_next c.args.n c.loop-block.rows c.args.td.now c.in-Some.block.now c.next.new.self (grind (arith, steps)),
  c.len.ensures.small,
)

pub loop-block-preserved : goal.loop-block-preserved
loop-block-preserved c = record {
  rows = grind (arith, steps);
  sizes = left_after (λ block. length block ≡ c.args.k) c.loop-block.block-iterator c.in-Some.block.now c.next.new.self (grind arith) c.loop-block.invariant.sizes;
  points = left_after (HasPlaces c.args.n) c.loop-block.block-iterator c.in-Some.block.now c.next.new.self (grind arith) c.loop-block.invariant.points;
}

pub returns-clause-rows : goal.returns-clause-rows
returns-clause-rows c = grind (arith, steps)

pub returns-clause-array : goal.returns-clause-array
returns-clause-array c = subst (λ rows. IsOa rows c.args.k c.args.n) (sym (returns-clause-rows c)) (oa_from_td c.args.k c.args.n c.args.td.now c.requires.one_point c.requires.design c.requires.two_groups)
