use Rattle.difference_sets.proofs.Buildable.{no_question}
use Rattle.difference_sets.proofs.families.base_blocks_of_step.Goals as goal

pub unreachable-requires : goal.unreachable-requires
unreachable-requires c = no_question c.args.q.now c.args.step.now c.requires c.in_default.not-Df
