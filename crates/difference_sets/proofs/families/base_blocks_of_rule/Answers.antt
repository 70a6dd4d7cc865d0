use Rattle.std.proofs.Common.{arith, subst, true, ◌≡◌}
use Rattle.difference_sets.proofs.Buildable.{cosets0_build, cosets_build, halfcosets_build, no_other, powers_build, table_number}
use Rattle.difference_sets.proofs.StepsMeet.{asked}
use Rattle.difference_sets.specs.FamilySteps.{family_applies}
use Rattle.difference_sets.proofs.families.base_blocks_of_rule.Goals as goal

pub overflow_sub-nonzero : goal.overflow_sub-nonzero
overflow_sub-nonzero c = let known = asked c.args.group c.args.v c.args.k c.args.l c.requires.bounds in omega (arith, known.two, known.inside)

pub base_blocks_of_entry-requires-clause-some : goal.base_blocks_of_entry-requires-clause-some
base_blocks_of_entry-requires-clause-some c = (table_number c.args.group c.args.v c.args.k c.args.l c.args.a c.args.b (subst (λ r. family_applies c.args.group c.args.v c.args.k c.args.l r c.args.a c.args.b ≡ true) c.in-Table.is c.requires.applies)).0

pub base_blocks_of_entry-requires-clause-listed : goal.base_blocks_of_entry-requires-clause-listed
base_blocks_of_entry-requires-clause-listed c = (table_number c.args.group c.args.v c.args.k c.args.l c.args.a c.args.b (subst (λ r. family_applies c.args.group c.args.v c.args.k c.args.l r c.args.a c.args.b ≡ true) c.in-Table.is c.requires.applies)).1

pub nonzero_div-nonzero : goal.nonzero_div-nonzero
nonzero_div-nonzero c = (powers_build c.args.group c.args.v c.args.k c.args.l c.args.a c.args.b (subst (λ r. family_applies c.args.group c.args.v c.args.k c.args.l r c.args.a c.args.b ≡ true) c.in-Powers.is c.requires.applies)).0

pub base_blocks_of_field-requires : goal.base_blocks_of_field-requires
base_blocks_of_field-requires c = (powers_build c.args.group c.args.v c.args.k c.args.l c.args.a c.args.b (subst (λ r. family_applies c.args.group c.args.v c.args.k c.args.l r c.args.a c.args.b ≡ true) c.in-Powers.is c.requires.applies)).1

pub nonzero_div-nonzero-in-Cosets : goal.nonzero_div-nonzero-in-Cosets
nonzero_div-nonzero-in-Cosets c = let known = asked c.args.group c.args.v c.args.k c.args.l c.requires.bounds in omega (arith, known.two, known.inside)

pub nonzero_div-nonzero-in-Cosets-2 : goal.nonzero_div-nonzero-in-Cosets-2
nonzero_div-nonzero-in-Cosets-2 c = let known = asked c.args.group c.args.v c.args.k c.args.l c.requires.bounds in omega (arith, known.two, known.inside)

pub base_blocks_of_field-requires-in-Cosets : goal.base_blocks_of_field-requires-in-Cosets
base_blocks_of_field-requires-in-Cosets c = cosets_build c.args.group c.args.v c.args.k c.args.l c.args.a c.args.b (subst (λ r. family_applies c.args.group c.args.v c.args.k c.args.l r c.args.a c.args.b ≡ true) c.in-Cosets.is c.requires.applies)

pub overflow_sub-e : goal.overflow_sub-e
overflow_sub-e c = let known = asked c.args.group c.args.v c.args.k c.args.l c.requires.bounds in omega (arith, known.two, known.inside)

pub nonzero_div-e : goal.nonzero_div-e
nonzero_div-e c = let known = asked c.args.group c.args.v c.args.k c.args.l c.requires.bounds in omega (arith, known.two, known.inside)

pub overflow_sub-k : goal.overflow_sub-k
overflow_sub-k c = let known = asked c.args.group c.args.v c.args.k c.args.l c.requires.bounds in omega (arith, known.two, known.inside)

pub base_blocks_of_field-requires-in-Cosets0 : goal.base_blocks_of_field-requires-in-Cosets0
base_blocks_of_field-requires-in-Cosets0 c = cosets0_build c.args.group c.args.v c.args.k c.args.l c.args.a c.args.b (subst (λ r. family_applies c.args.group c.args.v c.args.k c.args.l r c.args.a c.args.b ≡ true) c.in-Cosets0.is c.requires.applies)

pub nonzero_div-nonzero-in-Halfcosets : goal.nonzero_div-nonzero-in-Halfcosets
nonzero_div-nonzero-in-Halfcosets c = let known = asked c.args.group c.args.v c.args.k c.args.l c.requires.bounds in omega (arith, known.two, known.inside)

pub nonzero_div-nonzero-in-Halfcosets-2 : goal.nonzero_div-nonzero-in-Halfcosets-2
nonzero_div-nonzero-in-Halfcosets-2 c = let known = asked c.args.group c.args.v c.args.k c.args.l c.requires.bounds in omega (arith, known.two, known.inside)

pub base_blocks_of_field-requires-in-Halfcosets : goal.base_blocks_of_field-requires-in-Halfcosets
base_blocks_of_field-requires-in-Halfcosets c = halfcosets_build c.args.group c.args.v c.args.k c.args.l c.args.a c.args.b (subst (λ r. family_applies c.args.group c.args.v c.args.k c.args.l r c.args.a c.args.b ≡ true) c.in-Halfcosets.is c.requires.applies)

pub unreachable-requires : goal.unreachable-requires
unreachable-requires c = no_other c.args.group c.args.v c.args.k c.args.l c.args.rule c.args.a c.args.b c.requires.applies c.in_default.not-Table c.in_default.not-Powers c.in_default.not-Cosets c.in_default.not-Cosets0 c.in_default.not-Halfcosets
