use Rattle.std.proofs.Common.{arith}
use Rattle.difference_sets.proofs.StepsMeet.{asked}
use Rattle.difference_sets.proofs.steps.applies.Goals as goal

pub are_powers-requires : goal.are_powers-requires
are_powers-requires c = let known = asked c.args.group c.args.v c.args.k c.args.l c.requires in (omega (arith, known.two, known.inside), known.small)

pub are_cosets-requires-clause-elements : goal.are_cosets-requires-clause-elements
are_cosets-requires-clause-elements c = let known = asked c.args.group c.args.v c.args.k c.args.l c.requires in (omega (arith, known.two, known.inside), omega (arith, known.two))

pub are_cosets0-requires : goal.are_cosets0-requires
are_cosets0-requires c = let known = asked c.args.group c.args.v c.args.k c.args.l c.requires in (omega (arith, known.two, known.inside), known.two)

pub are_halfcosets-requires-clause-elements : goal.are_halfcosets-requires-clause-elements
are_halfcosets-requires-clause-elements c = let known = asked c.args.group c.args.v c.args.k c.args.l c.requires in
    (omega (arith, known.two, known.inside), omega (arith, known.two), omega (arith, known.inside, known.small))

pub are_cosets-requires-clause-few : goal.are_cosets-requires-clause-few
are_cosets-requires-clause-few c = (asked c.args.group c.args.v c.args.k c.args.l c.requires).few

pub are_halfcosets-requires-clause-few : goal.are_halfcosets-requires-clause-few
are_halfcosets-requires-clause-few c = (asked c.args.group c.args.v c.args.k c.args.l c.requires).few
