use Rattle.std.proofs.Common.{ap, arith, get_or, ◌*◌, ◌+◌, ◌∙◌, ◌≡◌}
use Rattle.design_base.proofs.Cover.{cover-turn}
use Rattle.design_checks.specs.Counts.{cell}
use Rattle.design_checks.proofs.differences.together.Goals as goal

pub returns-else-x-y : goal.returns-else-x-y
returns-else-x-y c = λ B is.
    let place : c.args.y * c.args.v + c.args.x ≡ cell c.args.v 0 c.args.y c.args.x = ap (λ y. y * c.args.v + c.args.x) (omega arith) in
    ap (λ p. get_or c.args.counts.now p 0) place ∙ is c.args.y c.args.x (omega arith) (omega arith) (omega arith) (omega arith) ∙ cover-turn B c.args.y c.args.x
