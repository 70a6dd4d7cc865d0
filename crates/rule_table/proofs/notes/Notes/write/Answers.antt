use Rattle.std.proofs.Common.{sym, ◌∙◌, ap, subst, arith}
use Rattle.std.specs.Prelude.{Some}
use Rattle.std.specs.FinSet as set
use Rattle.design_base.specs.Cells.{cell_of}
use Rattle.rule_table.specs.Noted.{noted, AreNotes}
use Rattle.rule_table.specs.Told.{Cells}
use Rattle.rule_table.proofs.Remembered.{noted-set, notes-set}
use Rattle.rule_table.proofs.notes.Notes.write.Goals as goal

pub invariant_of-self : goal.invariant_of-self
invariant_of-self c =
    let ws = c.self.inside.words in
    subst AreNotes (sym c.set.ensures)
    (notes-set ws c.args.q.now c.cell_of.result c.code.result c.self.invariant (omega (arith, c.cell_of.ensures.within, c.self.invariant.count)) c.cell_of.ensures.value c.requires.bounds (c.code.ensures.back ∙ ap Some c.requires.told))

pub returns : goal.returns
returns c =
    let ws = c.self.inside.words in
    ap noted c.set.ensures
    ∙ noted-set ws c.cell_of.result c.code.result (omega (arith, c.cell_of.ensures.within, c.self.invariant.count)) (λ z. omega (arith, z, c.code.ensures.some))
    ∙ ap (set.insert (noted ws)) c.cell_of.ensures.value ∙ ap (λ (s : Cells). set.insert s (cell_of c.args.q.now)) c.self.view_is
