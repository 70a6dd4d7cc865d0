-- The questions that a workload draws.
use Rattle.std.specs.Prelude.{ℕ, ◌+◌, ◌-◌, ◌*◌, ◌%◌, ◌≡◌, ◌≤◌, Bool, true, false, List, unwrap_or}
use Rattle.std.proofs.Common.{zero, suc}
use Rattle.std.specs.FinSet as set
use Rattle.counting.specs.Sums.{join_below, one, sum_below}
use Rattle.design_answers.specs.declared.draws.TheConstants.{FIRST_DRAWN, STRIDE}
use Rattle.design_base.specs.Cells.{cell_of}
use Rattle.design_base.specs.Limits.{in_bounds}
use Rattle.design_base.specs.Questions.{query_of}
use Rattle.design_base.specs.declared.cells.TheConstants.{CELLS}
use Rattle.design_base.specs.declared.limits.TheConstants.{PBD_S_MAX, POINTS_MAX}
use Rattle.design_base.specs.declared.query.Query.{Query}
use Rattle.design_base.specs.declared.query.Query.TheVariants.{Pbd}
use Rattle.design_base.specs.declared.verdict.Verdict.{Verdict}
use Rattle.design_base.specs.declared.verdict.Verdict.TheVariants.{Yes, No, Unknown}
use Rattle.rule_table.specs.Closure.{cells_of, closure}
use Rattle.rule_table.specs.Verdicts.{verdict}

-- the question of the first cell from this one on that has a question, where so many cells are behind it; the last cell has one
unfoldable pub first_behind : ℕ → ℕ → Query
first_behind zero cell = Pbd POINTS_MAX PBD_S_MAX
first_behind (suc more) cell = unwrap_or (query_of cell) (first_behind more (cell + 1))

unfoldable pub first_from : ℕ → Query
first_from cell = first_behind (CELLS - 1 - cell) cell

-- the question in bounds has the least number from this one on
pub record IsFirstFrom (cell : ℕ) (q : Query) : Type 0 where
  pub bounds : in_bounds q ≡ true
  pub above : cell ≤ cell_of q
  pub least : (p : Query) → in_bounds p ≡ true → cell ≤ cell_of p → cell_of q ≤ cell_of p

-- where the search for a draw begins: the cells are gone through in strides, round and round
abbrev pub start_of : ℕ → ℕ
start_of j = (j * STRIDE + cell_of FIRST_DRAWN) % CELLS

-- the draws, counted from 0
unfoldable pub draw : ℕ → Query
draw j = first_from (start_of j)

abbrev pub is_no : Verdict → Bool
is_no (Yes step) = false
is_no (No criterion) = true
is_no Unknown = false

abbrev pub is_unknown : Verdict → Bool
is_unknown (Yes step) = false
is_unknown (No criterion) = false
is_unknown Unknown = true

-- how many of the first n draws have such a verdict
abbrev pub drawn : (Verdict → Bool) → ℕ → ℕ
drawn is_such n = sum_below n (λ j. one (is_such (verdict (draw j))))

-- the closures of the first n draws, one behind another
abbrev pub drawn_closures : ℕ → List Query
drawn_closures n = join_below n (λ j. closure (draw j))

-- how many different questions those have
abbrev pub drawn_cells : ℕ → ℕ
drawn_cells n = set.len (cells_of (drawn_closures n))
