use Rattle.std.proofs.Common.{ap, sym, take, ◌↔◌, ◌∙◌, subst}
use Rattle.std.proofs.Math.Seq.{take-length}
use Rattle.design_base.specs.Arrays.{IsOa}
use Rattle.design_base.specs.Blocks.{IsTd}
use Rattle.arrays.specs.Lines.{bad_row}
use Rattle.arrays.proofs.Bounds.{td_bounds}
use Rattle.arrays.proofs.Passages.{td_iff_oa}
use Rattle.arrays.proofs.Shapes.{rows_from_none}
use Rattle.arrays.proofs.blocks.td_of_rows.Goals as goal

pub canonical_blocks-requires-clause-rows : goal.canonical_blocks-requires-clause-rows
canonical_blocks-requires-clause-rows c =
    rows_from_none c.args.k c.args.n c.args.rows.now
    (ap (bad_row c.args.k c.args.n) (sym (ap (λ wanted. take wanted c.args.rows.now) c.len.ensures.len ∙ take-length c.args.rows.now)) ∙ sym c.in_default.ensures)

pub returns-clause-design : goal.returns-clause-design
returns-clause-design c =
    let b = td_bounds c.args.k c.args.n c.requires in
    let rows = rows_from_none c.args.k c.args.n c.args.rows.now
    (ap (bad_row c.args.k c.args.n) (sym (ap (λ wanted. take wanted c.args.rows.now) c.len.ensures.len ∙ take-length c.args.rows.now)) ∙ sym c.in_default.ensures) in
    subst (λ td. IsTd td c.args.k c.args.n ↔ IsOa c.args.rows.now c.args.k c.args.n) (sym c.in_ok-td.ensures) (td_iff_oa c.args.k c.args.n c.args.rows.now rows b.two b.positive)
