use Rattle.design_checks.proofs.Wanted.{end_of_group}
use Rattle.design_checks.proofs.pairs.partners.Goals as goal

pub returns-in-Across : goal.returns-in-Across
returns-in-Across c =
    let groups = rw c.in-Across.is at c.requires.wanted in
    rw c.in-Across.is (λ y l. end_of_group c.in-Across.g c.args.x y groups.0 l)
