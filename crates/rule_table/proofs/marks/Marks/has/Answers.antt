use Rattle.std.proofs.Common.{◌≡◌, ◌≢◌, sym, ◌∙◌, ap, subst, arith, not, ◌==◌, ℕ, true, false}
use Rattle.std.specs.Prelude.{slice_index}
use Rattle.std.proofs.lemmas.Bool.Decides.{nat_tests}
use Rattle.design_base.specs.Cells.{cell_of}
use Rattle.rule_table.specs.Told.{Cells, Has}
use Rattle.rule_table.proofs.Remembered.{noted_written, written_noted}
use Rattle.rule_table.proofs.marks.Marks.has.Goals as goal

other : (n : ℕ) → not (n == 0) ≡ true → n ≢ 0
other n e z = grind (arith, nat_tests, e, z)

zero_then : (n : ℕ) → not (n == 0) ≡ false → n ≡ 0
zero_then n e = grind (arith, nat_tests, e)

pub returns-clause-yes : goal.returns-clause-yes
returns-clause-yes c e =
    let ws = c.self.inside.words in
    let i = cell_of c.args.q.now in
    let read : c.get.result ≡ slice_index ws i = c.get.ensures ∙ ap (slice_index ws) c.cell_of.ensures.value in
    subst (λ (s : Cells). Has s i) c.self.view_is (written_noted ws i (λ z. other c.get.result e (read ∙ z)))

pub returns-clause-no : goal.returns-clause-no
returns-clause-no c e h =
    let ws = c.self.inside.words in
    let i = cell_of c.args.q.now in
    let read : c.get.result ≡ slice_index ws i = c.get.ensures ∙ ap (slice_index ws) c.cell_of.ensures.value in
    noted_written ws i (subst (λ (s : Cells). Has s i) (sym c.self.view_is) h) (sym read ∙ zero_then c.get.result e)
