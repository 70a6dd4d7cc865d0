use Rattle.std.proofs.Common.{ap, arith, ◌*◌, ◌+◌}
use Rattle.design_base.specs.Arrays.{rows_of_blocks}
use Rattle.incidence.specs.Packed.{size_of}
use Rattle.wilson.proofs.Rooms.{room_of_one, size_of_more}
use Rattle.wilson.proofs.Steps.{steps}
use Rattle.wilson.proofs.truncations.assemble_one.Goals as goal

pub push_fills_one-requires-clause-room : goal.push_fills_one-requires-clause-room
push_fills_one-requires-clause-room c = omega (
  arith,
  ap size_of c.in_ok-rows.ensures,
  room_of_one c.args.k c.args.cut.m c.args.cut.t c.args.cut.u _ c.in_ok-master.master c.args.small.now c.args.large.now (rows_of_blocks c.args.cut.u c.args.rest.now) c.in_ok-master.ensures.rows,
  c.requires.room,
)

pub push_raised_td-requires-clause-room : goal.push_raised_td-requires-clause-room
push_raised_td-requires-clause-room c = omega (
  arith,
  ap size_of c.in_ok-rows.ensures,
  size_of_more c.args.k (c.args.cut.m * c.args.cut.t + c.args.cut.u) _ _ _ c.in_ok-push_fills_one.ensures,
  room_of_one c.args.k c.args.cut.m c.args.cut.t c.args.cut.u _ c.in_ok-master.master c.args.small.now c.args.large.now (rows_of_blocks c.args.cut.u c.args.rest.now) c.in_ok-master.ensures.rows,
  c.requires.room,
)

pub returns : goal.returns
returns c = grind (arith, steps)
