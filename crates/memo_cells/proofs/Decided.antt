-- What a pass has learned in the midst of a decision and at its end.
use Rattle.std.proofs.Common.{◌≡◌, ℕ, ◌+◌, ◌-◌, ◌≤◌, List, [], ◌∷◌, ◌++◌, true, false, Bool, cond, inl, inr, sym, ap, ◌∙◌, subst, ⊎_elim, arith}
use Rattle.std.specs.Cmp.{nat_cmp_total}
use Rattle.std.specs.FinSet as sets
use Rattle.design_base.specs.declared.query.Query.{Query}
use Rattle.design_base.specs.declared.verdict.Verdict.{Verdict}
use Rattle.design_base.specs.Cells.{cell_of}
use Rattle.design_base.specs.Codes.{code}
use Rattle.design_base.specs.Limits.{in_bounds}
use Rattle.design_base.proofs.Coding.{code_positive}
use Rattle.rule_table.specs.Closure.{closure, cells_of}
use Rattle.rule_table.specs.Told.{Cells, Has, Grows, Learns, IsPaid}
use Rattle.rule_table.proofs.Closures.{reached_unfolds, closure_cells}
use Rattle.rule_table.proofs.Each.{each-weaker, each-append}
use Rattle.rule_table.proofs.Remembered.{note_ends}
use Rattle.rule_table.proofs.Sets.{insert_has, insert_keeps, insert_from}
use Rattle.memo_cells.specs.Knowledge.{Knowledge, KnowsAll, loaded, published}
use Rattle.memo_cells.specs.Lawful.{IsUnreached}
use Rattle.memo_cells.proofs.Filling.{learned-other}

-- what is known where a verdict was found
pub found_known : (old now : Knowledge) (cell : ℕ) (v : Verdict) → now ≡ loaded old cell (code v) → now.known ≡ sets.insert old.known cell
found_known old now cell v is = ap (λ (k : Knowledge). k.known) is ∙ learned-other old.known cell (code v) (λ z. omega (arith, z, code_positive v))

-- and where one was set
pub published_known : (old now : Knowledge) (cell : ℕ) → now ≡ published old cell → now.known ≡ sets.insert old.known cell
published_known old now cell is = ap (λ (k : Knowledge). k.known) is

-- one cell more is no cell less
len_kept : (s : Cells) (k : ℕ) → sets.len s ≤ sets.len (sets.insert s k)
len_kept s k = subst (λ n. sets.len s ≤ n) (sym (sets.len-insert nat_cmp_total s k)) (at (sets.contains s k))
  where
    at : (b : Bool) → sets.len s ≤ cond b (sets.len s) (sets.len s + 1)
    at true = omega arith
    at false = omega arith

-- a verdict was found in the question's own cell
pub found_learns : (q : Query) (old now : Cells) → now ≡ sets.insert old (cell_of q) → Learns q old now
found_learns q old now is = subst (Learns q old) (sym is) (record {
  keeps = λ i h. insert_keeps old (cell_of q) i h;
  own = insert_has old (cell_of q);
  fresh = λ i h. ⊎_elim (λ own. inl (inr own)) (λ was. inl (inl was)) (insert_from old (cell_of q) i h);
})

pub found_paid : (old now : Cells) (cell steps : ℕ) → now ≡ sets.insert old cell → IsPaid old now steps steps
found_paid old now cell steps is = subst (λ (s : Cells). IsPaid old s steps steps) (sym is) (omega (arith, len_kept old cell))

-- a question is in its own closure, so where it was not found its cell was not known
own_cell : (q : Query) → in_bounds q ≡ true → Has (cells_of (closure q)) (cell_of q)
own_cell q bounds =
    subst (λ (s : Cells). Has s (cell_of q)) (sym (closure_cells q ∙ ap cells_of (reached_unfolds q bounds))) (insert_has _ (cell_of q))

pub not_known : (q : Query) (known : Cells) → in_bounds q ≡ true → IsUnreached known (cell_of q) → Has known (cell_of q) → ⊥
not_known q known bounds unreached h = unreached q bounds h (own_cell q bounds)

-- one premise more is known
pub knows_more : (old now : Cells) (ps : List Query) (p : Query) → KnowsAll old ps → Learns p old now → KnowsAll now (ps ++ p ∷ [])
knows_more old now ps p knows learns =
    each-append (λ r. Has now (cell_of r)) ps (p ∷ []) (each-weaker (λ r. Has old (cell_of r)) (λ r. Has now (cell_of r)) ps (λ r h. learns.keeps (cell_of r) h) knows) (learns.own, tt)

-- the question's own cell is set, and pays for its evaluation
pub decision_ends : (q : Query) (old now last : Cells) (start steps : ℕ) → in_bounds q ≡ true → Grows q old now → IsPaid old now (start + 1) steps → (Has old (cell_of q) → ⊥) → last ≡ sets.insert now (cell_of q)
    → Learns q old last × IsPaid old last start steps
decision_ends q old now last start steps bounds grows paid new is =
    -- the most steps that are paid, and so one for each new cell
    let most : ℕ = start + 1 + sets.len now - sets.len old in
    let ends = note_ends q old now start most bounds grows (omega (arith, paid)) new in
    subst (λ (s : Cells). Learns q old s × IsPaid old s start steps) (sym is) (ends.0, omega (arith, paid, ends.1))
