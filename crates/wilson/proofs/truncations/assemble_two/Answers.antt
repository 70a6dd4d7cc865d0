use Rattle.std.proofs.Common.{ap, arith, ◌*◌, ◌+◌}
use Rattle.design_base.specs.Arrays.{rows_of_blocks}
use Rattle.incidence.specs.Packed.{size_of}
use Rattle.transversal.proofs.Steps.{length-raised}
use Rattle.wilson.proofs.Rooms.{room_of_two, size_of_more}
use Rattle.wilson.proofs.Steps.{steps}
use Rattle.wilson.proofs.truncations.assemble_two.Goals as goal

pub push_fills_two-requires-clause-room : goal.push_fills_two-requires-clause-room
push_fills_two-requires-clause-room c = omega (
  arith,
  ap size_of c.in_ok-rows.ensures,
  room_of_two c.args.k c.args.cut.m c.args.cut.t c.args.cut.u c.args.cut.w _ c.in_ok-master.master c.args.small.now c.args.large.now c.args.larger.now
      (rows_of_blocks c.args.cut.u c.args.first.now) (rows_of_blocks c.args.cut.w c.args.second.now) c.in_ok-master.ensures.rows,
  c.requires.room,
)

pub push_raised_td-requires-clause-room : goal.push_raised_td-requires-clause-room
push_raised_td-requires-clause-room c = omega (
  arith,
  ap size_of c.in_ok-rows.ensures,
  size_of_more c.args.k (c.args.cut.m * c.args.cut.t + c.args.cut.u + c.args.cut.w) _ _ _ c.in_ok-push_fills_two.ensures,
  room_of_two c.args.k c.args.cut.m c.args.cut.t c.args.cut.u c.args.cut.w _ c.in_ok-master.master c.args.small.now c.args.large.now c.args.larger.now
      (rows_of_blocks c.args.cut.u c.args.first.now) (rows_of_blocks c.args.cut.w c.args.second.now) c.in_ok-master.ensures.rows,
  c.requires.room,
)

pub push_raised_td-requires-2-clause-room : goal.push_raised_td-requires-2-clause-room
push_raised_td-requires-2-clause-room c = omega (
  arith,
  ap size_of c.in_ok-rows.ensures,
  size_of_more c.args.k (c.args.cut.m * c.args.cut.t + c.args.cut.u + c.args.cut.w) _ _ _ c.in_ok-push_fills_two.ensures,
  size_of_more c.args.k _ _ _ _ c.in_ok-push_raised_td.ensures,
  ap (λ n. (c.args.k + 1) * n) (length-raised (c.args.cut.m * c.args.cut.t) (rows_of_blocks c.args.cut.u c.args.first.now)),
  room_of_two c.args.k c.args.cut.m c.args.cut.t c.args.cut.u c.args.cut.w _ c.in_ok-master.master c.args.small.now c.args.large.now c.args.larger.now
      (rows_of_blocks c.args.cut.u c.args.first.now) (rows_of_blocks c.args.cut.w c.args.second.now) c.in_ok-master.ensures.rows,
  c.requires.room,
)

pub returns : goal.returns
returns c = grind (arith, steps)
