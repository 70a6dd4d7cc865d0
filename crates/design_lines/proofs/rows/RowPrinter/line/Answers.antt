use Rattle.std.proofs.lemmas.List.{take_all}
use Rattle.std.proofs.Common.{◌++◌, ◌∷◌, [], ◌∙◌, ap}
use Rattle.design_lines.proofs.NumberTexts.{row_printed}
use Rattle.design_lines.proofs.rows.RowPrinter.line.Goals as goal

pub returns : goal.returns
returns c =
    row_printed c.args.row.now c.bytes.result.now c.min.result c.min.ensures
    (c.bytes.ensures.bytes ∙ c.end.ensures ∙ ap (λ text. text ++ 10 ∷ []) (rw (take_all c.loop-number.number-index c.args.row.now c.loop-number-test.false) at c.loop-number.invariant.texts))
