-- The questions that a verdict rests on.
use Rattle.std.specs.Prelude.{ℕ, ◌+◌, ◌==◌, ◌≡◌, nat_lt, Bool, true, ◌&&◌, ◌||◌, List, [], ◌∷◌, cond, flat_map, map}
use Rattle.std.proofs.Common.{zero, suc}
use Rattle.std.specs.FinSet as set
use Rattle.std.specs.List.{list_any}
use Rattle.counting.specs.Sorting.{sort_by}
use Rattle.design_base.specs.declared.query.Query.{Query}
use Rattle.design_base.specs.Cells.{cell_of}
use Rattle.design_base.specs.Limits.{in_bounds}
use Rattle.rule_terms.specs.Rank.{rank}
use Rattle.rule_table.specs.Asked.{asked}
use Rattle.rule_table.specs.Told.{Cells, Has}

-- a question whose rank is below n, and all that it leads to
unfoldable pub reached_below : ℕ → Query → List Query
reached_below zero q = []
reached_below (suc n) q = q ∷ flat_map (reached_below n) (asked q)

-- The question, what its verdict asks for, what those verdicts ask for, and so on: `reached q ≡ q ∷ flat_map reached (asked q)`.
unfoldable pub reached : Query → List Query
reached q = reached_below (rank q + 1) q

-- the question has this number
abbrev pub is_at : ℕ → Query → Bool
is_at cell q = cell_of q == cell

-- each question once
unfoldable pub once : List Query → List Query
once [] = []
once (p ∷ ps) = cond (list_any (is_at (cell_of p)) ps) (once ps) (p ∷ once ps)

-- by rank, and by number where ranks are equal
abbrev pub goes_before : Query → Query → Bool
goes_before p q = nat_lt (rank p) (rank q) || (rank p == rank q && nat_lt (cell_of p) (cell_of q + 1))

-- the closure of a question: the questions that it leads to, each once, in the order of their ranks
unfoldable pub closure : Query → List Query
closure q = sort_by goes_before (once (reached q))

-- the cells of some questions
abbrev pub cells_of : List Query → Cells
cells_of ps = set.from_list (map cell_of ps)

-- the set, with the cells of the closure of q
abbrev pub with_closure : Cells → Query → Cells
with_closure s q = set.union s (cells_of (closure q))

-- the set holds with each question all of its closure
abbrev pub IsClosed : Cells → Type 0
IsClosed s = (q : Query) → in_bounds q ≡ true → Has s (cell_of q) → (i : ℕ) → Has (cells_of (closure q)) i → Has s i
