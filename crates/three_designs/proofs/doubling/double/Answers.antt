use Rattle.std.proofs.Common.{ap, arith, ◌∙◌}
use Rattle.design_base.specs.Canonical.{canonical}
use Rattle.incidence.specs.Packed.{size_of}
use Rattle.three_designs.proofs.Grown.{cube_few, grown, pairs_few, size_of-canonical}
use Rattle.three_designs.proofs.doubling.double.Goals as goal

pub push_all-requires : goal.push_all-requires
push_all-requires c = omega (arith, cube_few c.args.w (omega (arith, c.requires.small)), c.requires.few, ap size_of c.new-rows.ensures)

pub push_moved-requires-clause-room : goal.push_moved-requires-clause-room
push_moved-requires-clause-room c = omega (arith, cube_few c.args.w (omega (arith, c.requires.small)), c.requires.few, ap size_of c.new-rows.ensures, c.in_ok-push_all.ensures.size)

pub push_factors-requires-clause-room : goal.push_factors-requires-clause-room
push_factors-requires-clause-room c = omega (
  arith,
  cube_few c.args.w (omega (arith, c.requires.small)),
  pairs_few c.args.w,
  c.requires.few,
  ap size_of c.new-rows.ensures,
  c.in_ok-push_all.ensures.size,
  c.in_ok-push_moved.ensures.size,
)

pub returns-clause-blocks : goal.returns-clause-blocks
returns-clause-blocks c = c.in_ok-blocks.ensures ∙ ap canonical (grown c.args.w c.args.system.now _ _ _ _ c.new-rows.ensures c.in_ok-push_all.ensures.ok c.in_ok-push_moved.ensures.ok c.in_ok-push_factors.ensures.ok)

pub returns-clause-few : goal.returns-clause-few
returns-clause-few c = omega (
  arith,
  ap size_of c.in_ok-blocks.ensures ∙ size_of-canonical _,
  pairs_few c.args.w,
  c.requires.few,
  ap size_of c.new-rows.ensures,
  c.in_ok-push_all.ensures.size,
  c.in_ok-push_moved.ensures.size,
  c.in_ok-push_factors.ensures.size,
)
