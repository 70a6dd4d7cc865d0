use Rattle.std.proofs.Common.{[], ap, arith, below_more, sym, ◌∙◌}
use Rattle.std.proofs.lemmas.Option.{get_or_from_slice_get}
use Rattle.arrays.specs.Lines.{is_row}
use Rattle.arrays.proofs.Shapes.{bad_row_found}
use Rattle.arrays.proofs.lines.bad_row.Goals as goal

pub returns-then-not-is_row : goal.returns-then-not-is_row
returns-then-not-is_row c =
    let e = get_or_from_slice_get c.args.lines.now c.loop-i.i c.row.result.now [] c.row.ensures in
    sym (bad_row_found c.args.k c.args.n c.args.wanted c.args.lines.now c.loop-i.i (omega arith) (omega arith) c.loop-i.invariant (ap (is_row c.args.k c.args.n) e ∙ sym c.if-not-is_row.ensures))

pub loop-i-preserved : goal.loop-i-preserved
loop-i-preserved c =
    let e = get_or_from_slice_get c.args.lines.now c.loop-i.i c.row.result.now [] c.row.ensures in
    below_more _ _ c.loop-i.invariant (ap (is_row c.args.k c.args.n) e ∙ sym c.if-not-is_row.ensures)
