use Rattle.std.proofs.Common.{◌≡◌, subst, true}
use Rattle.arrays.proofs.Bounds.{td_bounds}
use Rattle.design_base.specs.Limits.{in_bounds}
use Rattle.design_reports.proofs.Printable.{blocks_fit, rows_fit, squares_fit}
use Rattle.design_reports.proofs.parts.part_of_design.Goals as goal

pub overflow_sub-result : goal.overflow_sub-result
overflow_sub-result c = (td_bounds c.in-Td-Squares.k c.in-Td-Squares.n (subst (λ q. in_bounds q ≡ true) c.in-Td-Squares.is-0 c.query.ensures.bounds)).two

pub returns-in_ok-rows-in-Td-Rows-clause-printable : goal.returns-in_ok-rows-in-Td-Rows-clause-printable
returns-in_ok-rows-in-Td-Rows-clause-printable c =
    rows_fit c.in-Td-Rows.k c.in-Td-Rows.n (subst (λ q. in_bounds q ≡ true) c.in-Td-Rows.is-0 c.query.ensures.bounds) c.in_ok-rows-in-Td-Rows.rows c.in_ok-rows-in-Td-Rows.ensures.array

pub returns-in_ok-lines-in-Td-Squares-clause-printable : goal.returns-in_ok-lines-in-Td-Squares-clause-printable
returns-in_ok-lines-in-Td-Squares-clause-printable c =
    squares_fit c.in-Td-Squares.k c.in-Td-Squares.n (subst (λ q. in_bounds q ≡ true) c.in-Td-Squares.is-0 c.query.ensures.bounds) c.in_ok-lines-in-Td-Squares.lines c.in_ok-lines-in-Td-Squares.ensures.mols

pub returns-in_default-clause-printable : goal.returns-in_default-clause-printable
returns-in_default-clause-printable c =
    blocks_fit c.args.design.query (subst (λ q. in_bounds q ≡ true) c.query.ensures.query c.query.ensures.bounds) _ c.into_blocks.ensures.meets
