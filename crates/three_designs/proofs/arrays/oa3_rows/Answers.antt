use Rattle.std.proofs.Common.{ap, arith, subst, sym, ◌∙◌}
use Rattle.counting.specs.Sorting.{sort_by}
use Rattle.design_base.specs.Canonical.{lex_le}
use Rattle.three_designs.specs.StrengthThree.{IsOa3}
use Rattle.three_designs.proofs.MadeArrays.{oa3_made, oa3_needs}
use Rattle.three_designs.proofs.arrays.oa3_rows.Goals as goal

pub rows_by-requires-clause-needs : goal.rows_by-requires-clause-needs
rows_by-requires-clause-needs c = oa3_needs c.in-Yes.rule c.args.k c.args.n (sym c.in-Yes.ensures.value) (omega (arith, c.requires))

pub returns-clause-array : goal.returns-clause-array
returns-clause-array c = subst (λ R. IsOa3 R c.args.k c.args.n) (sym (c.in_ok-rows-2.ensures ∙ ap (sort_by lex_le) c.in_ok-rows.ensures))
    (oa3_made c.in-Yes.rule c.args.k c.args.n (sym c.in-Yes.ensures.value) (omega (arith, c.requires)))
