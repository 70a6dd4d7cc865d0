use Rattle.std.proofs.Common.{subst, sym}
use Rattle.three_designs.specs.Quadruples.{sqs_verdict_of}
use Rattle.three_designs.specs.StrengthThree.{IsSqs}
use Rattle.three_designs.proofs.MadeSystems.{sqs_made}
use Rattle.three_designs.proofs.quadruples.sqs_blocks.Goals as goal

pub returns-clause-system : goal.returns-clause-system
unfolding sqs_verdict_of
returns-clause-system c = subst (λ B. IsSqs B c.args.v) (sym c.in_ok-rows.ensures.blocks) (sqs_made c.args.v c.args.v c.requires.yes)
