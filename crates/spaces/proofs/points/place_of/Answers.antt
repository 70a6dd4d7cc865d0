use Rattle.std.proofs.Common.{ap, arith, length}
use Rattle.design_base.specs.Fields.{field_product}
use Rattle.spaces.proofs.PointSteps.{few_points, is_place}
use Rattle.spaces.proofs.points.place_of.Goals as goal

pub place_in-requires-clause-short : goal.place_in-requires-clause-short
place_in-requires-clause-short c = omega (arith, ap length c.requires.points, few_points c.args.field.now c.args.n, c.requires.fits)

pub returns : goal.returns
returns c = is_place (field_product c.args.field.now) c.args.field.now c.args.n c.args.x c.place_in.result c.point_of.result c.args.points.now c.requires.points c.point_of.ensures.multiple c.place_in.ensures
