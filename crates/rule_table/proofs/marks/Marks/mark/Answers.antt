use Rattle.std.proofs.Common.{◌≡◌, ℕ, ◌+◌, ◌<◌, ◌^◌, sym, ◌∙◌, ap, subst, arith, rules}
use Rattle.std.specs.Prelude.{List, slice_index}
use Rattle.std.specs.FinSet as set
use Rattle.design_base.specs.Cells.{cell_of}
use Rattle.rule_table.specs.Noted.{noted, AreMarks}
use Rattle.rule_table.specs.Told.{Cells, Has}
use Rattle.rule_table.proofs.Remembered.{noted_written, written_noted, noted-set, marks-set, marks_few}
use Rattle.rule_table.proofs.Sets.{insert_same}
use Rattle.rule_table.proofs.marks.Marks.mark.Goals as goal

pub returns-then-get-ne0 : goal.returns-then-get-ne0
returns-then-get-ne0 c =
    let ws = c.self.inside.words in
    let i = cell_of c.args.q.now in
    let read : c.get.result ≡ slice_index ws i = c.get.ensures ∙ ap (slice_index ws) c.cell_of-cell.ensures.value in
    sym (insert_same c.args.self.now i (subst (λ (s : Cells). Has s i) c.self.view_is (written_noted ws i (λ z. c.if-get-ne0.true (read ∙ z)))))

pub overflow_add-self : goal.overflow_add-self
overflow_add-self c =
    let small : c.self.inside.marked + 1 < 2 ^ 32 = omega (arith, marks_few c.self.inside.words c.self.inside.marked c.self.invariant) in
    search (rules, small)

pub invariant_of-self : goal.invariant_of-self
invariant_of-self c =
    let ws = c.self.inside.words in
    let i = c.cell_of-cell.result in
    subst (λ (l : List ℕ). AreMarks l (c.self.inside.marked + 1)) (sym c.set.ensures)
    (marks-set ws c.self.inside.marked i 1 c.self.invariant (omega (arith, c.cell_of-cell.ensures.within, c.self.invariant.cells)) (λ z. omega (arith, z))
    (λ h. noted_written ws i h (sym c.get.ensures ∙ c.if-get-ne0.false)))

pub returns : goal.returns
returns c =
    let ws = c.self.inside.words in
    ap noted c.set.ensures
    ∙ noted-set ws c.cell_of-cell.result 1 (omega (arith, c.cell_of-cell.ensures.within, c.self.invariant.cells)) (λ z. omega (arith, z))
    ∙ ap (set.insert (noted ws)) c.cell_of-cell.ensures.value ∙ ap (λ (s : Cells). set.insert s (cell_of c.args.q.now)) c.self.view_is
