-- What an asker that tells its cells has learned from a call.
use Rattle.std.specs.Prelude.{◌≡◌, ◌⊎◌, ℕ, ◌+◌, ◌≤◌, ◌<◌, ⊤, true, Option, None, Some}
use Rattle.std.specs.Ordering.{nat_cmp}
use Rattle.std.specs.FinSet as set
use Rattle.design_base.specs.declared.query.Query.{Query}
use Rattle.design_base.specs.Cells.{cell_of}
use Rattle.design_base.specs.Limits.{in_bounds}
use Rattle.rule_terms.specs.Rank.{rank}

-- a set of cells
abbrev pub Cells : Type 0
Cells = set.FinSet nat_cmp

abbrev pub Has : Cells → ℕ → Type 0
Has s i = set.contains s i ≡ true

-- the cell of a question of smaller rank
pub record IsCellBelow (q : Query) (i : ℕ) : Type 0 where
  pub question : Query
  pub bounds : in_bounds question ≡ true
  pub smaller : rank question < rank q
  pub cell : cell_of question ≡ i

abbrev pub Keeps : Cells → Cells → Type 0
Keeps old new = (i : ℕ) → Has old i → Has new i

-- old cells are kept, and the new ones are those of questions of smaller rank
pub record Grows (q : Query) (old new : Cells) : Type 0 where
  pub keeps : Keeps old new
  pub fresh : (i : ℕ) → Has new i → Has old i ⊎ IsCellBelow q i

-- the same, and the question's own cell is known
pub record Learns (q : Query) (old new : Cells) : Type 0 where
  pub keeps : Keeps old new
  pub own : Has new (cell_of q)
  pub fresh : (i : ℕ) → Has new i → (Has old i ⊎ (i ≡ cell_of q)) ⊎ IsCellBelow q i

-- the steps rise by the number of new cells: each is one evaluation
abbrev pub IsCounted : Cells → Cells → ℕ → ℕ → Type 0
IsCounted old new old_steps new_steps = new_steps + set.len old ≡ old_steps + set.len new

-- the steps rise by at most the number of new cells
abbrev pub IsPaid : Cells → Cells → ℕ → ℕ → Type 0
IsPaid old new old_steps new_steps = new_steps + set.len old ≤ old_steps + set.len new

-- What one call told of the cells, where the asker tells them. An asker that tells goes on telling.
abbrev pub ToldAfter : Query → Option Cells → Option Cells → ℕ → ℕ → Type 0
ToldAfter q None known old_steps new_steps = ⊤
ToldAfter q (Some old) None old_steps new_steps = ⊥
ToldAfter q (Some old) (Some new) old_steps new_steps = Learns q old new × IsPaid old new old_steps new_steps

-- what several calls told, one after the other, each on a question of smaller rank than q
abbrev pub KeptAfter : Query → Option Cells → Option Cells → ℕ → ℕ → Type 0
KeptAfter q None known old_steps new_steps = ⊤
KeptAfter q (Some old) None old_steps new_steps = ⊥
KeptAfter q (Some old) (Some new) old_steps new_steps = Grows q old new × IsPaid old new old_steps new_steps
