-- The question with a number.
use Rattle.std.specs.Prelude.{ℕ, ◌+◌, ◌-◌, ◌*◌, ◌/◌, ◌%◌, ◌==◌, nat_lt, List, [], ◌∷◌, if◌then◌else◌, Option, Some, None, option_and_then}
use Rattle.design_base.specs.declared.limits.TheConstants.{TD_N_MAX, POINTS_MAX, COVER_MAX, PBD_S_MAX}
use Rattle.design_base.specs.declared.query.Group.{Group}
use Rattle.design_base.specs.declared.query.Group.TheVariants.{Cyclic, Field}
use Rattle.design_base.specs.declared.query.Query.{Query}
use Rattle.design_base.specs.declared.query.Query.TheVariants.{Td, Df, Bibd, Gdd, Pbd}
use Rattle.design_base.specs.Cells.{td_cells, bibd_cells, gdd_cells, pbd_cells}
use Rattle.design_base.specs.Limits.{in_bounds}

-- the questions of each kind by their places among them
abbrev pub td_at : ℕ → Query
td_at x = Td (x / TD_N_MAX + 2) (x % TD_N_MAX + 1)

abbrev pub group_at : ℕ → Group
group_at i = if i == 0 then Cyclic else Field

abbrev pub triple_at : (ℕ → ℕ → ℕ → Query) → ℕ → Query
triple_at question x = question (x / COVER_MAX / (POINTS_MAX - 1) + 2) (x / COVER_MAX % (POINTS_MAX - 1) + 2) (x % COVER_MAX + 1)

abbrev pub df_at : ℕ → Query
df_at x = triple_at (λ v k l. Df (group_at (x / bibd_cells)) v k l) (x % bibd_cells)

abbrev pub bibd_at : ℕ → Query
bibd_at x = triple_at (λ v k l. Bibd v k l) x

-- the place of k, g and u among all of them
abbrev pub gdd_number : ℕ → ℕ → ℕ → ℕ
gdd_number k g u = ((k - 2) * (POINTS_MAX / 2) + (g - 1)) * (POINTS_MAX - 1) + (u - 2)

abbrev pub gdd_at : ℕ → Query
gdd_at x = Gdd (x / (POINTS_MAX - 1) / (POINTS_MAX / 2) + 2) (x / (POINTS_MAX - 1) % (POINTS_MAX / 2) + 1) (x % (POINTS_MAX - 1) + 2)

abbrev pub pbd_at : ℕ → Query
pbd_at x = Pbd (x / (PBD_S_MAX - 1) + 2) (x % (PBD_S_MAX - 1) + 2)

-- how many places each kind has, and its questions by their places, one kind behind another
abbrev pub kinds : List (ℕ × (ℕ → Query))
kinds = (td_cells, td_at) ∷ (2 * bibd_cells, df_at) ∷ (bibd_cells, bibd_at) ∷ (gdd_cells, gdd_at) ∷ (pbd_cells, pbd_at) ∷ []

abbrev pub placed : List (ℕ × (ℕ → Query)) → ℕ → Option Query
placed [] x = None
placed (kind ∷ rest) x = if nat_lt x kind.0 then Some (kind.1 x) else placed rest (x - kind.0)

-- the question that a number leads back to, in bounds or not
abbrev pub question_at : ℕ → Option Query
question_at cell = placed kinds cell

-- the question in bounds with this number, where there is one
unfoldable pub query_of : ℕ → Option Query
query_of cell = option_and_then (λ q. if in_bounds q then Some q else None) (question_at cell)
