use Rattle.std.proofs.Common.{◌≡◌, refl, sym, ◌∙◌, ap, subst}
use Rattle.std.specs.Prelude.{MatchOption, Option, slice_index}
use Rattle.design_base.specs.declared.verdict.Verdict.{Verdict}
use Rattle.design_base.specs.Cells.{cell_of}
use Rattle.rule_table.specs.Told.{Cells, Has}
use Rattle.rule_table.specs.Verdicts.{verdict}
use Rattle.rule_table.proofs.Remembered.{noted_written, written_noted, word_read}
use Rattle.rule_table.proofs.notes.Notes.read.Goals as goal

pub returns-then-word-eq0 : goal.returns-then-word-eq0
returns-then-word-eq0 c h =
    let ws = c.self.inside.words in
    let i = cell_of c.args.q.now in
    let e : c.get-word.result ≡ slice_index ws i = c.get-word.ensures ∙ ap (slice_index ws) c.cell_of.ensures.value in
    noted_written ws i (subst (λ (s : Cells). Has s i) (sym c.self.view_is) h) (sym e ∙ c.if-word-eq0.true)

pub returns : goal.returns
returns c =
    let ws = c.self.inside.words in
    let q = c.args.q.now in
    let i = cell_of c.args.q.now in
    let e : c.get-word.result ≡ slice_index ws i = c.get-word.ensures ∙ ap (slice_index ws) c.cell_of.ensures.value in
    let r = word_read ws q c.get-word.result c.self.invariant c.requires e c.if-word-eq0.false in
    let known = subst (λ (s : Cells). Has s i) c.self.view_is (written_noted ws i (λ z. c.if-word-eq0.false (e ∙ z))) in
    subst (λ (r : Option Verdict). MatchOption r (¬ Has c.args.self.now i) (λ v. (v ≡ verdict q) × Has c.args.self.now i)) (sym (c.read_code.ensures.value ∙ r)) (refl, known)
