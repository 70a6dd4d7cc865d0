use Rattle.std.proofs.Common.{arith}
use Rattle.difference_sets.proofs.CosetSteps.{are_few, rows_fit}
use Rattle.field_tables.proofs.Listed.{listed_small, order_above}
use Rattle.difference_sets.proofs.cosets.base_blocks_of_cosets.Goals as goal

pub overflow_add-f : goal.overflow_add-f
overflow_add-f c =
    let q = c.args.field.now in
    omega (arith, c.requires.zero, listed_small q c.requires.listed, (are_few q c.args.e c.args.f (order_above q c.requires.listed) c.requires.whole).inside)

pub push_coset-requires-clause-few : goal.push_coset-requires-clause-few
push_coset-requires-clause-few c = (are_few c.args.field.now c.args.e c.args.f (order_above c.args.field.now c.requires.listed) c.requires.whole).inside

pub push_coset-requires-clause-room : goal.push_coset-requires-clause-room
push_coset-requires-clause-room c =
    let q = c.args.field.now in
    omega (arith, c.loop-i.invariant.size, listed_small q c.requires.listed, rows_fit q c.args.e c.args.f c.args.z c.args.m c.loop-i.i (order_above q c.requires.listed) c.requires.whole c.requires.zero c.requires.inside c.loop-i-test.true)
