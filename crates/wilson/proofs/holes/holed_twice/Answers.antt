use Rattle.std.proofs.Common.{◌+◌}
use Rattle.transversal.proofs.Designs.{few_rows}
use Rattle.wilson.proofs.Designs.{apart_differs, apart_second, apart_within, holed_twice_rows, holed_twice_without}
use Rattle.wilson.proofs.holes.holed_twice.Goals as goal

pub without_two-requires-clause-second : goal.without_two-requires-clause-second
without_two-requires-clause-second c = apart_second c.args.k c.args.m c.args.e c.args.array.now c.requires.two_groups c.requires.few_groups c.requires.array c.requires.apart

pub without_two-requires-clause-within : goal.without_two-requires-clause-within
without_two-requires-clause-within c = apart_within c.args.k c.args.m c.args.e c.args.array.now c.requires.two_groups c.requires.few_groups c.requires.array c.requires.apart

pub without_two-requires-clause-few : goal.without_two-requires-clause-few
without_two-requires-clause-few c = few_rows c.args.k (c.args.m + 2) c.args.array.now c.requires.points c.requires.array

pub without_two-requires-clause-apart : goal.without_two-requires-clause-apart
without_two-requires-clause-apart c = apart_differs c.args.k c.args.m c.args.e c.args.array.now c.requires.two_groups c.requires.few_groups c.requires.array c.requires.apart

pub returns-clause-without : goal.returns-clause-without
returns-clause-without c = holed_twice_without c.args.k c.args.m c.args.e c.args.array.now c.requires.two_groups c.requires.few_groups c.requires.array c.requires.apart c.in_ok-rows.rows c.in_ok-rows.ensures

pub returns-clause-rows : goal.returns-clause-rows
returns-clause-rows c = holed_twice_rows c.args.k c.args.m c.args.e c.args.array.now c.requires.two_groups c.requires.few_groups c.requires.array c.requires.apart c.in_ok-rows.rows c.in_ok-rows.ensures
