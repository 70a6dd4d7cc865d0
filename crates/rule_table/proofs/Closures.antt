-- What is reached from a question, and how many of it there are.
use Rattle.std.proofs.Common.{◌≡◌, ℕ, zero, suc, ◌+◌, ◌<◌, ◌==◌, Bool, true, false, ◌||◌, cond, List, [], ◌∷◌, ◌++◌, length, refl, sym, ap, ◌∙◌, ⊎_elim, arith, add-one}
use Rattle.std.specs.Prelude.{flat_map}
use Rattle.std.specs.List.{list_any, AllByRecursion}
use Rattle.std.specs.Cmp.{nat_cmp_total}
use Rattle.std.specs.FinSet as set
use Rattle.std.specs.Ordering.{nat_cmp}
use Rattle.counting.proofs.Booleans.{cond_both, or_turn}
use Rattle.std.proofs.lemmas.Bool.Decides.{nat_tests}
use Rattle.std.proofs.Math.Path.{ap₂}
use Rattle.counting.specs.Sorting.{insert_by, sort_by}
use Rattle.counting.proofs.Sorting.{length-sort_by}
use Rattle.design_base.specs.declared.query.Query.{Query}
use Rattle.design_base.specs.Cells.{cell_of}
use Rattle.design_base.specs.Limits.{in_bounds}
use Rattle.rule_terms.specs.Rank.{rank}
use Rattle.rule_table.specs.Asked.{asked}
use Rattle.rule_table.specs.Closure.{reached, reached_below, once, is_at, closure, goes_before, cells_of, with_closure}
use Rattle.rule_table.specs.Told.{Cells, Has}
use Rattle.rule_table.proofs.Each.{each-weaker}
use Rattle.rule_table.proofs.Passing.{IsBelow}
use Rattle.rule_table.proofs.Works.{asked_fall}
use Rattle.rule_table.proofs.Sets.{cells_any, same_any, same_cells, union_from, union_right, empty_has}

flat_map-same : (f g : Query → List Query) (ps : List Query) → AllByRecursion (λ p. f p ≡ g p) ps → flat_map f ps ≡ flat_map g ps
flat_map-same f g [] h = refl
flat_map-same f g (p ∷ ps) h = ap₂ (λ xs ys. xs ++ ys) h.0 (flat_map-same f g ps h.1)

reached-same : (n m : ℕ) (q : Query) → in_bounds q ≡ true → rank q < n → rank q < m → reached_below n q ≡ reached_below m q
unfolding reached_below
reached-same zero m q b h k = absurd (omega arith)
reached-same (suc n) zero q b h k = absurd (omega arith)
reached-same (suc n) (suc m) q b h k =
    ap (λ (ps : List Query). q ∷ ps) (flat_map-same (reached_below n) (reached_below m) (asked q)
    (each-weaker (IsBelow (rank q)) (λ p. reached_below n p ≡ reached_below m p) (asked q)
    (λ p d. reached-same n m p d.0 (omega (arith, d.1)) (omega (arith, d.1))) (asked_fall q b)))

-- a question leads to itself and to what those lead to that it asks for
pub reached_unfolds : (q : Query) → in_bounds q ≡ true → reached q ≡ q ∷ flat_map reached (asked q)
unfolding reached reached_below
reached_unfolds q b =
    rw add-one (ap (λ (ps : List Query). q ∷ ps) (flat_map-same (reached_below (rank q)) reached (asked q)
    (each-weaker (IsBelow (rank q)) (λ p. reached_below (rank q) p ≡ reached p) (asked q)
    (λ p d. reached-same (rank q) (rank p + 1) p d.0 d.1 (omega arith)) (asked_fall q b))))

-- what passes a test, once and in order

or_same : (a b : Bool) → (a ≡ true → b ≡ true) → (a || b) ≡ b
or_same true b h = sym (h refl)
or_same false b h = refl

module _ (test : Query → Bool) (le : Query → Query → Bool) where
  any-insert_by : (q : Query) (ps : List Query) → list_any test (insert_by le q ps) ≡ (test q || list_any test ps)
  unfolding insert_by
  any-insert_by q [] = refl
  any-insert_by q (p ∷ ps) =
      cond_both (le q p) (q ∷ (p ∷ ps)) (p ∷ insert_by le q ps) (λ xs. list_any test xs ≡ (test q || (test p || list_any test ps))) (λ e. refl)
      (λ e. ap (λ b. test p || b) (any-insert_by q ps) ∙ or_turn (test p) (test q) (list_any test ps))

  any-sort_by : (ps : List Query) → list_any test (sort_by le ps) ≡ list_any test ps
  unfolding sort_by
  any-sort_by [] = refl
  any-sort_by (p ∷ ps) = any-insert_by p (sort_by le ps) ∙ ap (λ b. test p || b) (any-sort_by ps)

-- where one with this cell stands behind, a test of cells passes behind too
any_alike : (i j : ℕ) (ps : List Query) → i ≡ j → list_any (is_at i) ps ≡ list_any (is_at j) ps
any_alike i j ps e = ap (λ k. list_any (is_at k) ps) e

any-once : (i : ℕ) (ps : List Query) → list_any (is_at i) (once ps) ≡ list_any (is_at i) ps
unfolding once
any-once i [] = refl
any-once i (p ∷ ps) = by (any-once i ps) (list_any (is_at (cell_of p)) ps) refl
  where
    by : list_any (is_at i) (once ps) ≡ list_any (is_at i) ps → (b : Bool) → list_any (is_at (cell_of p)) ps ≡ b → list_any (is_at i) (cond b (once ps) (p ∷ once ps)) ≡ (cell_of p == i || list_any (is_at i) ps)
    by further true e =
        further ∙ sym (or_same (cell_of p == i) (list_any (is_at i) ps) (λ s. any_alike i (cell_of p) ps (let k : i ≡ cell_of p = grind (arith, nat_tests, s) in k) ∙ e))
    by further false e = ap (λ b. cell_of p == i || b) further

-- the closure has the cells of what is reached
pub closure_cells : (q : Query) → cells_of (closure q) ≡ cells_of (reached q)
unfolding closure
closure_cells q = same_any (sort_by goes_before (once (reached q))) (reached q) (λ i. any-sort_by (is_at i) goes_before (once (reached q)) ∙ any-once i (reached q))

-- each once: as many as there are cells
once_count : (ps : List Query) → length (once ps) ≡ set.len (cells_of ps)
unfolding once
once_count [] = sym (set.len-empty nat_cmp)
once_count (p ∷ ps) = by (list_any (is_at (cell_of p)) ps) (cells_any ps (cell_of p)) (once_count ps)
  where
    by : (b : Bool) → set.contains (cells_of ps) (cell_of p) ≡ b → length (once ps) ≡ set.len (cells_of ps) → length (cond b (once ps) (p ∷ once ps)) ≡ set.len (set.insert (cells_of ps) (cell_of p))
    by true e h = h ∙ sym (set.len-insert nat_cmp_total (cells_of ps) (cell_of p) ∙ ap (λ b. cond b (set.len (cells_of ps)) (set.len (cells_of ps) + 1)) e)
    by false e h =
        (let k : suc (length (once ps)) ≡ set.len (cells_of ps) + 1 = omega (arith, h) in k)
        ∙ sym (set.len-insert nat_cmp_total (cells_of ps) (cell_of p) ∙ ap (λ b. cond b (set.len (cells_of ps)) (set.len (cells_of ps) + 1)) e)

pub closure_count : (q : Query) → length (closure q) ≡ set.len (cells_of (closure q))
unfolding closure
closure_count q =
    length-sort_by goes_before (once (reached q)) ∙ once_count (reached q)
    ∙ ap set.len (sym (same_any (sort_by goes_before (once (reached q))) (reached q) (λ i. any-sort_by (is_at i) goes_before (once (reached q)) ∙ any-once i (reached q))))

-- so many cells has the closure alone
pub closure_alone : (s t : Cells) (q : Query) → t ≡ with_closure s q → s ≡ set.empty → set.len t ≡ length (closure q)
closure_alone s t q e none =
    ap set.len (e ∙ ap (λ (s : Cells). set.union s (cells_of (closure q))) none
    ∙ same_cells (set.union set.empty (cells_of (closure q))) (cells_of (closure q))
    (λ i h. ⊎_elim (λ k. empty_has (Has (cells_of (closure q)) i) i k) (λ k. k) (union_from set.empty (cells_of (closure q)) i h))
    (λ i h. union_right set.empty (cells_of (closure q)) i h))
    ∙ sym (closure_count q)
