-- The count of draws, one by one.
use Rattle.std.proofs.Common.{◌≡◌, ℕ, ◌+◌, Bool, List, ◌++◌, ap, sym, ◌∙◌, ⊎_elim, add-one}
use Rattle.std.specs.FinSet as set
use Rattle.counting.specs.Sums.{one}
use Rattle.counting.proofs.Counts.{join_below_more, join_below_none, sum_below-none, sum_below-suc}
use Rattle.design_base.specs.declared.query.Query.{Query}
use Rattle.design_base.specs.declared.verdict.Verdict.{Verdict}
use Rattle.rule_table.specs.Closure.{cells_of, closure, with_closure}
use Rattle.rule_table.specs.Told.{Cells}
use Rattle.rule_table.specs.Verdicts.{verdict}
use Rattle.rule_table.proofs.Sets.{append_from, append_left, append_right, same_cells, union_from, union_left, union_right}
use Rattle.design_answers.specs.Draws.{draw, drawn, drawn_closures}

-- no draws
pub drawn_none : (is_such : Verdict → Bool) → drawn is_such 0 ≡ 0
drawn_none is_such = sum_below-none (λ j. one (is_such (verdict (draw j))))

-- one more
pub drawn_more : (is_such : Verdict → Bool) (j : ℕ) → drawn is_such (j + 1) ≡ drawn is_such j + one (is_such (verdict (draw j)))
drawn_more is_such j = rw add-one (sum_below-suc j (λ j. one (is_such (verdict (draw j)))))

-- the cells of questions and then more questions
both_cells : (ps qs : List Query) → set.union (cells_of ps) (cells_of qs) ≡ cells_of (ps ++ qs)
both_cells ps qs =
    same_cells (set.union (cells_of ps) (cells_of qs)) (cells_of (ps ++ qs))
    (λ i h. ⊎_elim (λ l. append_left ps qs i l) (λ r. append_right ps qs i r) (union_from (cells_of ps) (cells_of qs) i h))
    (λ i h. ⊎_elim (λ l. union_left (cells_of ps) (cells_of qs) i l) (λ r. union_right (cells_of ps) (cells_of qs) i r) (append_from ps qs i h))

pub cells_none : (s : Cells) → s ≡ set.empty → s ≡ cells_of (drawn_closures 0)
cells_none s none = none ∙ ap cells_of (sym (join_below_none (λ j. closure (draw j))))

pub cells_more : (s t : Cells) (j : ℕ) (q : Query) → s ≡ cells_of (drawn_closures j) → q ≡ draw j → t ≡ with_closure s q → t ≡ cells_of (drawn_closures (j + 1))
cells_more s t j q before is more =
    more ∙ ap (with_closure s) is ∙ ap (λ (s : Cells). set.union s (cells_of (closure (draw j)))) before ∙ both_cells (drawn_closures j) (closure (draw j))
    ∙ ap cells_of (sym (join_below_more j (λ j. closure (draw j))))
