use Rattle.std.proofs.Common.{ap, subst, sym, ◌∙◌}
use Rattle.counting.specs.Sorting.{sort_by}
use Rattle.design_base.specs.Arrays.{IsOa}
use Rattle.design_base.specs.Canonical.{lex_le}
use Rattle.arrays.proofs.Bounds.{td_bounds}
use Rattle.arrays.proofs.TdRows.{array_in_order, rows_in_order}
use Rattle.arrays.proofs.rows.rows_of_td.Goals as goal

pub array_of_td-requires-clause-two_groups : goal.array_of_td-requires-clause-two_groups
array_of_td-requires-clause-two_groups c = (td_bounds c.args.k c.args.n c.requires.bounds).two

pub array_of_td-requires-clause-groups : goal.array_of_td-requires-clause-groups
array_of_td-requires-clause-groups c = (td_bounds c.args.k c.args.n c.requires.bounds).few

pub array_of_td-requires-clause-one_point : goal.array_of_td-requires-clause-one_point
array_of_td-requires-clause-one_point c = (td_bounds c.args.k c.args.n c.requires.bounds).positive

pub returns-clause-rows : goal.returns-clause-rows
returns-clause-rows c = c.in_ok-rows.ensures ∙ ap (sort_by lex_le) c.in_ok-array.ensures.rows ∙ rows_in_order c.args.n c.args.td.now

pub returns-clause-array : goal.returns-clause-array
returns-clause-array c = subst (λ rows. IsOa rows c.args.k c.args.n) (sym (returns-clause-rows c)) (array_in_order c.args.k c.args.n c.args.td.now (td_bounds c.args.k c.args.n c.requires.bounds) c.requires.td)
