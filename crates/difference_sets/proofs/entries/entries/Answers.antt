use Rattle.std.proofs.Common.{refl}
use Rattle.difference_sets.specs.Listed.{families}
use Rattle.difference_sets.proofs.entries.entries.Goals as goal

pub returns : goal.returns
unfolding families
returns c = refl
