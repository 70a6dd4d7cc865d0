-- A memo as plain data, changed by one event after another, and the laws of it.
use Rattle.std.specs.Prelude.{◌≡◌, ◌≢◌, ◌⊎◌, ◌++◌, ◌==◌, ℕ, List, [], ◌∷◌, Some, true, if◌then◌else◌, slice_index, slice_set, replicate}
use mathlib.Core.Option.{some}
use lib.ListN.{get_elem?}
use Rattle.design_base.specs.declared.cells.TheConstants.{CELLS}
use Rattle.design_base.specs.declared.query.Query.{Query}
use Rattle.design_base.specs.Cells.{cell_of}
use Rattle.design_base.specs.Codes.{code, read_code}
use Rattle.design_base.specs.Limits.{in_bounds}
use Rattle.rule_table.specs.Asked.{asked}
use Rattle.rule_table.specs.Closure.{closure, cells_of}
use Rattle.rule_table.specs.Verdicts.{verdict}
use Rattle.memo_cells.specs.Knowledge.{Knowledge, KnowsAll, no_knowledge, loaded, published, split_off, joined}
use Rattle.memo_cells.specs.Lawful.{AreFilled, IsFilled, IsLawful}

-- its words, one for each cell, and what its passes know
pub record Core : Type 0 where
  pub words : List ℕ
  pub views : List Knowledge

abbrev pub core : List ℕ → List Knowledge → Core
core words views = record { words = words; views = views }

-- The four kinds of event. A pass is named by its place: it loads the word of a cell, publishes a word as the verdict of a question, splits a pass off, or joins
-- another.
pub data Event : Type 0 where
  loads : ℕ → ℕ → Event
  publishes : ℕ → Query → ℕ → Event
  splits : ℕ → Event
  joins : ℕ → ℕ → Event

-- the pass at this place knows v
abbrev pub IsView : Core → ℕ → Knowledge → Type 0
IsView s pass v = get_elem? s.views pass ≡ some v

-- the word is put into the cell where that is 0
abbrev pub exchanged : List ℕ → ℕ → ℕ → List ℕ
exchanged words cell word = if slice_index words cell == 0 then slice_set words cell word else words

-- When a pass that knows v may publish a word for q, a question in bounds: the word is read as its verdict, and the pass knows the cells of what the verdict asks
-- for.
pub record MayPublish (v : Knowledge) (q : Query) (word : ℕ) : Type 0 where
  pub bounds : in_bounds q ≡ true
  pub told : read_code word ≡ Some (verdict q)
  pub grounded : KnowsAll v.known (asked q)

-- what the memo becomes by an event
abbrev pub Leads : Core → Event → Core → Type 0
Leads s (loads pass cell) t = (v : Knowledge) × IsView s pass v × (t ≡ core s.words (slice_set s.views pass (loaded v cell (slice_index s.words cell))))
Leads s (publishes pass q word) t =
    (v : Knowledge) × IsView s pass v × MayPublish v q word × (t ≡ core (exchanged s.words (cell_of q) word) (slice_set s.views pass (published v (cell_of q))))
Leads s (splits pass) t = (v : Knowledge) × IsView s pass v × (t ≡ core s.words (slice_set s.views pass v ++ split_off v ∷ []))
Leads s (joins pass other) t =
    (v : Knowledge) × (w : Knowledge) × IsView s pass v × IsView s other w × ¬ (other ≡ pass) × (t ≡ core s.words (slice_set (slice_set s.views pass (joined v w)) other no_knowledge))

-- what it becomes by some events, one after another
abbrev pub Reaches : Core → List Event → Core → Type 0
Reaches s [] t = t ≡ s
Reaches s (e ∷ es) t = (u : Core) × Leads s e u × Reaches u es t

-- no cell is filled, and one pass knows nothing
abbrev pub beginning : Core
beginning = core (replicate CELLS 0) (no_knowledge ∷ [])

-- whatever happens, the memo is lawful
abbrev pub CoreLaw : Type 0
CoreLaw = (events : List Event) (s : Core) → Reaches beginning events s → IsLawful s.words s.views

-- the word of a question is 0 or the code of its verdict
abbrev pub CodeLaw : Type 0
CodeLaw =
    (words : List ℕ) (views : List Knowledge) (q : Query) → IsLawful words views → in_bounds q ≡ true
    → (slice_index words (cell_of q) ≡ 0) ⊎ (slice_index words (cell_of q) ≡ code (verdict q))

-- with the cell of a question all cells of its closure are filled
abbrev pub ClosureLaw : Type 0
ClosureLaw =
    (words : List ℕ) (views : List Knowledge) (q : Query) → IsLawful words views → in_bounds q ≡ true → IsFilled words (cell_of q)
    → AreFilled words (cells_of (closure q))
