-- What a pass knows of a memo, and how each kind of event changes it.
use Rattle.std.specs.Prelude.{ℕ, ◌+◌, nat_eq, cond, refl, Option, Some, None, List}
use Rattle.std.specs.Coded.{Coded, code_by, coded×, coded_ℕ, coded_option}
use Rattle.std.specs.FinSet as set
use Rattle.std.specs.List.{AllByRecursion}
use Rattle.atomic_table.specs.Seated.{TableId, table_id_coded}
use Rattle.design_base.specs.declared.query.Query.{Query}
use Rattle.design_base.specs.Cells.{cell_of}
use Rattle.rule_table.specs.Told.{Cells, Has}

-- the cells that a pass knows, how many loads it made, and the last of them: its cell and the word that it found
pub record Knowledge : Type 0 where
  pub known : Cells
  pub loads : ℕ
  pub last : Option (ℕ × ℕ)

abbrev pub knowledge_code : Coded Knowledge
knowledge_code =
    code_by (Cells × (ℕ × Option (ℕ × ℕ))) (coded× (set.code coded_ℕ) (coded× coded_ℕ (coded_option (coded× coded_ℕ coded_ℕ)))) (λ k. (k.known, (k.loads, k.last)))
    (λ p. record { known = p.0; loads = p.1.0; last = p.1.1 }) (λ _. refl)

-- a pass: the memo that it was made from, and what it knows
pub record PassState : Type 0 where
  pub memo : TableId
  pub knowledge : Knowledge

abbrev pub pass_state_code : Coded PassState
pass_state_code = code_by (TableId × Knowledge) (coded× table_id_coded knowledge_code) (λ p. (p.memo, p.knowledge)) (λ p. record { memo = p.0; knowledge = p.1 }) (λ _. refl)

-- the cells of these questions are known
abbrev pub KnowsAll : Cells → List Query → Type 0
KnowsAll known ps = AllByRecursion (λ p. Has known (cell_of p)) ps

-- no cell is known, and no load was made
abbrev pub no_knowledge : Knowledge
no_knowledge = record { known = set.empty; loads = 0; last = None }

-- the cells that are known once this word was found in a cell: where it is not 0, the cell too
abbrev pub learned : Cells → ℕ → ℕ → Cells
learned known cell found = cond (nat_eq found 0) known (set.insert known cell)

-- after a load of a cell that found this word
abbrev pub loaded : Knowledge → ℕ → ℕ → Knowledge
loaded v cell found = record { known = learned v.known cell found; loads = v.loads + 1; last = Some (cell, found) }

-- after a compare and exchange from 0 in a cell, won or lost
abbrev pub published : Knowledge → ℕ → Knowledge
published v cell = record { known = set.insert v.known cell; loads = v.loads; last = v.last }

-- what a pass begins with that is split off from one which knows v: the same cells, and no loads
abbrev pub split_off : Knowledge → Knowledge
split_off v = record { known = v.known; loads = 0; last = None }

-- after a pass that knew w was joined to one that knows v
abbrev pub joined : Knowledge → Knowledge → Knowledge
joined v w = record { known = set.union v.known w.known; loads = v.loads; last = v.last }
