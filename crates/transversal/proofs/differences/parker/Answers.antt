use Rattle.std.proofs.Common.{ap, arith, subst, sym, ◌+◌, ◌*◌}
use Rattle.design_base.specs.Blocks.{IsTd}
use Rattle.incidence.specs.Packed.{size_of}
use Rattle.transversal.proofs.Designs.{few_rows, parker_design}
use Rattle.transversal.proofs.Steps.{steps}
use Rattle.transversal.proofs.differences.parker.Goals as goal

pub push_raised-requires-clause-room : goal.push_raised-requires-clause-room
push_raised-requires-clause-room c =
    let few = few_rows 4 c.args.m c.in_ok-inner.inner (omega (arith, c.requires.points)) c.in_ok-inner.ensures.array in
    omega (arith, few, c.requires.points, c.in_ok-push_translates.ensures.size, ap size_of c.in_ok-rows.ensures)

pub returns-clause-blocks : goal.returns-clause-blocks
returns-clause-blocks c = grind (arith, steps)

pub returns-clause-design : goal.returns-clause-design
returns-clause-design c = subst (λ B. IsTd B 4 (3 * c.args.m + 1)) (sym (returns-clause-blocks c)) (parker_design c.args.m c.args.inner.now c.requires)
