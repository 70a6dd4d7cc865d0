use Rattle.std.proofs.Common.{arith, sym, ◌∙◌}
use Rattle.three_designs.proofs.DerivedSystems.{points_modulo_six}
use Rattle.three_designs.proofs.MadeSystems.{none_of_points}
use Rattle.three_designs.proofs.quadruples.sqs_verdict.Goals as goal

pub returns-clause-law : goal.returns-clause-law
returns-clause-law c = λ e B system. none_of_points c.args.v c.args.v (sym c.verdict_within.ensures ∙ e) (points_modulo_six B c.args.v (omega (arith, c.requires)) system)
