use Rattle.std.proofs.Common.{arith, ◌*◌, ◌+◌}
use Rattle.std.specs.List.{flat_map}
use Rattle.design_base.specs.Arrays.{IsRow}
use Rattle.counting.proofs.Lists.{left_after}
use Rattle.incidence.proofs.RowsAndBlocks.{room_next}
use Rattle.wilson.proofs.Steps.{steps}
use Rattle.wilson.proofs.filling.push_fills_one.Goals as goal
use Rattle.wilson.specs.Truncations.{fill_one}

pub push_fill_one-requires-clause-room : goal.push_fill_one-requires-clause-room
push_fill_one-requires-clause-room c = omega (
  arith,
  room_next c.args.k (c.args.cut.m * c.args.cut.t + c.args.cut.u) c.loop-row.rows c.args.rows.now (fill_one c.args.k c.args.cut.m c.args.cut.t c.args.cut.u c.args.small.now c.args.large.now c.in-Some.row.now)
      (flat_map (fill_one c.args.k c.args.cut.m c.args.cut.t c.args.cut.u c.args.small.now c.args.large.now) c.next.new.self) (flat_map (fill_one c.args.k c.args.cut.m c.args.cut.t c.args.cut.u c.args.small.now c.args.large.now) c.args.master.now) (grind (arith, steps)),
  c.requires.room,
)

pub loop-row-preserved : goal.loop-row-preserved
loop-row-preserved c = record {
  blocks = grind (arith, steps);
  left = left_after (IsRow (c.args.k + 1) c.args.cut.t) c.loop-row.row-iterator c.in-Some.row.now c.next.new.self (grind arith) c.loop-row.invariant.left;
}
