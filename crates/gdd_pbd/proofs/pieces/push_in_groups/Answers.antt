use Rattle.std.proofs.Common.{arith}
use Rattle.design_base.specs.declared.limits.TheConstants.{POINTS_MAX}
use Rattle.gdd_pbd.proofs.Steps.{pair_within}
use Rattle.gdd_pbd.proofs.pieces.push_in_groups.Goals as goal

pub push_copies-requires-clause-points : goal.push_copies-requires-clause-points
push_copies-requires-clause-points c = pair_within c.loop-j.j c.args.u c.args.g POINTS_MAX (omega arith) c.requires.groups.0
