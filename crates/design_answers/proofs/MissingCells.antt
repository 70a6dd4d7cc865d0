-- Behind the transversal designs the cells come in rows, in each of which those that have a question stand in front.
use Rattle.std.proofs.Common.{◌≡◌, ℕ, zero, suc, ◌+◌, ◌-◌, ◌*◌, ◌/◌, ◌%◌, ◌<◌, ◌≤◌, ◌⊎◌, inl, inr, true, arith, refl, ap, sym, ◌∙◌, ⊎_elim}
use Rattle.std.specs.Prelude.{Option, Some, None, unwrap_or}
use Rattle.counting.proofs.Booleans.{cases_eq, cases_lt}
use Rattle.std.proofs.lemmas.Bool.Decides.{nat_tests}
use Rattle.std.proofs.Math.Nat.{mul-le-mul_left}
use Rattle.design_base.specs.declared.cells.TheConstants.{CELLS}
use Rattle.design_base.specs.declared.limits.TheConstants.{COVER_MAX, PBD_S_MAX, POINTS_MAX, TD_K_MAX, TD_N_MAX}
use Rattle.design_base.specs.declared.query.Group.{Group}
use Rattle.design_base.specs.declared.query.Query.{Query}
use Rattle.design_base.specs.declared.query.Query.TheVariants.{Td, Df, Bibd, Gdd, Pbd}
use Rattle.design_base.specs.Cells.{bibd_cells, cell_of, gdd_cells, group_number, td_cells, triple_number}
use Rattle.design_base.specs.Limits.{in_bounds}
use Rattle.design_base.specs.Questions.{query_of}
use Rattle.design_base.proofs.Bounds.{td_numbers, df_numbers, bibd_numbers, gdd_numbers, pbd_numbers}
use Rattle.design_base.proofs.Numbering.{cell_of_query, gdd_small, query_of_cell, same_question}
use Rattle.design_answers.specs.declared.draws.TheConstants.{ROW, TD_CELLS}
use Rattle.design_answers.specs.Draws.{IsFirstFrom, first_behind, first_from}

-- questions with smaller numbers in place of others are in bounds too
td_in : (k n : ℕ) → 2 ≤ k → k ≤ TD_K_MAX → 1 ≤ n → n ≤ TD_N_MAX → in_bounds (Td k n) ≡ true
unfolding in_bounds
td_in k n a b c d = grind (arith, nat_tests)

df_in : (group : Group) (v k l i m : ℕ) → in_bounds (Df group v k l) ≡ true → 2 ≤ i → i ≤ k → 1 ≤ m → m ≤ COVER_MAX → in_bounds (Df group v i m) ≡ true
unfolding in_bounds
df_in group v k l i m b a c d e = grind (arith, nat_tests)

bibd_in : (v k l i m : ℕ) → in_bounds (Bibd v k l) ≡ true → 2 ≤ i → i ≤ k → 1 ≤ m → m ≤ COVER_MAX → in_bounds (Bibd v i m) ≡ true
unfolding in_bounds
bibd_in v k l i m b a c d e = grind (arith, nat_tests)

gdd_in : (k g u w : ℕ) → in_bounds (Gdd k g u) ≡ true → 2 ≤ w → w ≤ u → in_bounds (Gdd k g w) ≡ true
unfolding in_bounds
gdd_in k g u w b a c = let m : g * w ≤ g * u = mul-le-mul_left g c in grind (arith, nat_tests)

pbd_in : (v s : ℕ) → 2 ≤ v → v ≤ POINTS_MAX → 2 ≤ s → s ≤ PBD_S_MAX → in_bounds (Pbd v s) ≡ true
unfolding in_bounds
pbd_in v s a b c d = grind (arith, nat_tests)

-- a cell has the number of a question in bounds
record Holds (cell : ℕ) : Type 0 where
  question : Query
  bounds : in_bounds question ≡ true
  number : cell_of question ≡ cell

-- and so a question is found there
missing : (cell : ℕ) → query_of cell ≡ None → Holds cell → ⊥
missing cell none h = let s : None ≡ Some h.question = sym none ∙ ap query_of (sym h.number) ∙ query_of_cell h.question h.bounds in cc

-- each of the first cells has a question
td_holds : (cell : ℕ) → cell < TD_CELLS → Holds cell
unfolding cell_of
td_holds cell h = record {
  question = Td (cell / TD_N_MAX + 2) (cell % TD_N_MAX + 1);
  bounds = td_in (cell / TD_N_MAX + 2) (cell % TD_N_MAX + 1) (omega arith) (omega arith) (omega arith) (omega arith);
  number = omega arith;
}

-- the end of the row of a cell
abbrev end_of : ℕ → ℕ
end_of cell = TD_CELLS + ((cell - TD_CELLS) / ROW + 1) * ROW

-- the first cell of the block designs, or difference families, with so many points, where a counts those of both groups with fewer
abbrev first_triple : ℕ → ℕ
first_triple a = TD_CELLS + a * (ROW * COVER_MAX)

abbrev first_gdd : ℕ → ℕ → ℕ
first_gdd k g = TD_CELLS + 3 * bibd_cells + ((k - 2) * (POINTS_MAX / 2) + (g - 1)) * ROW

abbrev first_pbd : ℕ
first_pbd = TD_CELLS + 3 * bibd_cells + gdd_cells

-- those with a number of points take whole rows
same_points : (a r c cell : ℕ) → c ≡ first_triple a + r → r < ROW * COVER_MAX → cell ≤ c → TD_CELLS ≤ cell → c < end_of cell → first_triple a ≤ cell
same_points a r c cell e l below behind within = omega arith

-- where a question stands behind a cell in its row, the cell has a question: one of the kind with smaller numbers
df_holds : (group : Group) (v k l cell : ℕ) → in_bounds (Df group v k l) ≡ true → TD_CELLS ≤ cell → cell ≤ cell_of (Df group v k l) → cell_of (Df group v k l) < end_of cell → Holds cell
unfolding cell_of
df_holds group v k l cell b behind below within =
    let d = df_numbers group v k l b in
    let a : ℕ = group_number group * ROW + (v - 2) in
    let f : first_triple a ≤ cell = same_points a ((k - 2) * COVER_MAX + (l - 1)) (td_cells + group_number group * bibd_cells + triple_number v k l) cell (omega (arith, d)) (omega (arith, d)) below behind within in
    record {
      question = Df group v ((cell - first_triple a) / COVER_MAX + 2) ((cell - first_triple a) % COVER_MAX + 1);
      bounds = df_in group v k l _ _ b (omega arith) (omega (arith, d, f, below)) (omega arith) (omega arith);
      number = omega (arith, d, f);
    }

bibd_holds : (v k l cell : ℕ) → in_bounds (Bibd v k l) ≡ true → TD_CELLS ≤ cell → cell ≤ cell_of (Bibd v k l) → cell_of (Bibd v k l) < end_of cell → Holds cell
unfolding cell_of
bibd_holds v k l cell b behind below within =
    let d = bibd_numbers v k l b in
    let a : ℕ = 2 * ROW + (v - 2) in
    let f : first_triple a ≤ cell = same_points a ((k - 2) * COVER_MAX + (l - 1)) (td_cells + 2 * bibd_cells + triple_number v k l) cell (omega (arith, d)) (omega (arith, d)) below behind within in
    record {
      question = Bibd v ((cell - first_triple a) / COVER_MAX + 2) ((cell - first_triple a) % COVER_MAX + 1);
      bounds = bibd_in v k l _ _ b (omega arith) (omega (arith, d, f, below)) (omega arith) (omega arith);
      number = omega (arith, d, f);
    }

gdd_holds : (k g u cell : ℕ) → in_bounds (Gdd k g u) ≡ true → TD_CELLS ≤ cell → cell ≤ cell_of (Gdd k g u) → cell_of (Gdd k g u) < end_of cell → Holds cell
unfolding cell_of
gdd_holds k g u cell b behind below within =
    let d = gdd_numbers k g u b in
    let s = gdd_small g u d.2 d.3 d.4 in
    record {
      question = Gdd k g (cell - first_gdd k g + 2);
      bounds = gdd_in k g u _ b (omega arith) (omega (arith, d, s, below));
      number = omega (arith, d, s, below, within, behind);
    }

pbd_holds : (v s cell : ℕ) → in_bounds (Pbd v s) ≡ true → TD_CELLS ≤ cell → cell ≤ cell_of (Pbd v s) → cell_of (Pbd v s) < end_of cell → Holds cell
unfolding cell_of
pbd_holds v s cell b behind below within =
    let d = pbd_numbers v s b in
    let f : first_pbd ≤ cell = omega (arith, d, behind, below, within) in
    record {
      question = Pbd ((cell - first_pbd) / (PBD_S_MAX - 1) + 2) ((cell - first_pbd) % (PBD_S_MAX - 1) + 2);
      bounds = pbd_in _ _ (omega arith) (omega (arith, d, f, below)) (omega arith) (omega arith);
      number = omega (arith, f);
    }

holds : (p : Query) (cell : ℕ) → in_bounds p ≡ true → TD_CELLS ≤ cell → cell ≤ cell_of p → cell_of p < end_of cell → Holds cell
unfolding cell_of
holds (Td k n) cell b behind below within = let d = td_numbers k n b in absurd (omega (arith, d, behind, below))
holds (Df group v k l) cell b behind below within = df_holds group v k l cell b behind below within
holds (Bibd v k l) cell b behind below within = bibd_holds v k l cell b behind below within
holds (Gdd k g u) cell b behind below within = gdd_holds k g u cell b behind below within
holds (Pbd v s) cell b behind below within = pbd_holds v s cell b behind below within

-- a cell without a question is not one of the front
pub behind_front : (cell : ℕ) → query_of cell ≡ None → TD_CELLS ≤ cell
behind_front cell none = ⊎_elim (λ h. absurd (missing cell none (td_holds cell h))) (λ h. h) (cases_lt cell TD_CELLS)

-- and no question is from it to the end of its row
pub row_missing : (cell : ℕ) → query_of cell ≡ None → (p : Query) → in_bounds p ≡ true → cell ≤ cell_of p → end_of cell ≤ cell_of p
row_missing cell none p b below =
    ⊎_elim (λ h. absurd (missing cell none (holds p cell b (behind_front cell none) below h))) (λ h. h) (cases_lt (cell_of p) (end_of cell))

-- the last cell has a question
pub last_in : in_bounds (Pbd POINTS_MAX PBD_S_MAX) ≡ true
last_in = pbd_in POINTS_MAX PBD_S_MAX (omega arith) (omega arith) (omega arith) (omega arith)

pub last_cell : cell_of (Pbd POINTS_MAX PBD_S_MAX) + 1 ≡ CELLS
unfolding cell_of
last_cell = refl

-- a question in bounds with the least number from a cell on is the one that the search finds
first_alone : (more cell : ℕ) (q : Query) → cell + more ≡ CELLS - 1 → IsFirstFrom cell q → q ≡ first_behind more cell
unfolding first_behind
first_alone zero cell q e f =
    same_question q (Pbd POINTS_MAX PBD_S_MAX) f.bounds last_in
    (omega (arith, e, last_cell, f.above, f.least (Pbd POINTS_MAX PBD_S_MAX) last_in (omega (arith, e, last_cell))))
first_alone (suc more) cell q e f = by (λ g. first_alone more (cell + 1) q (omega (arith, e)) g) (query_of cell) refl
  where
    behind : query_of cell ≡ None → IsFirstFrom (cell + 1) q
    behind none = record {
      bounds = f.bounds;
      above = by_other (cases_eq (cell_of q) cell);
      least = λ p b h. f.least p b (omega (arith, h));
    }
      where
        by_other : (cell_of q ≡ cell) ⊎ (cell_of q ≡ cell → ⊥) → cell + 1 ≤ cell_of q
        by_other (inl s) = absurd (missing cell none (record { question = q; bounds = f.bounds; number = s }))
        by_other (inr other) = omega (arith, f.above, other)

    by : (IsFirstFrom (cell + 1) q → q ≡ first_behind more (cell + 1)) → (found : Option Query) → query_of cell ≡ found → q ≡ unwrap_or found (first_behind more (cell + 1))
    by further (Some p) is =
        let h = cell_of_query cell p is in
        same_question q p f.bounds h.0 (omega (arith, h.1, f.above, f.least p h.0 (omega (arith, h.1))))
    by further None is = further (behind is)

-- the same from this cell on
pub first_is : (cell : ℕ) (q : Query) → cell < CELLS → IsFirstFrom cell q → q ≡ first_from cell
unfolding first_from
first_is cell q within f = first_alone (CELLS - 1 - cell) cell q (omega (arith, within)) f
