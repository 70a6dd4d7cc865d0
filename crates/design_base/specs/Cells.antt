-- The numbers of the questions in bounds: first the transversal designs, then the difference families, the balanced
-- incomplete block designs, the group divisible and the pairwise balanced designs. Some numbers have no question.
use Rattle.std.specs.Prelude.{ℕ, ◌+◌, ◌-◌, ◌*◌, ◌/◌}
use Rattle.design_base.specs.declared.query.Group.{Group}
use Rattle.design_base.specs.declared.query.Group.TheVariants.{Cyclic, Field}
use Rattle.design_base.specs.declared.query.Query.{Query}
use Rattle.design_base.specs.declared.query.Query.TheVariants.{Td, Df, Bibd, Gdd, Pbd}
use Rattle.design_base.specs.declared.limits.TheConstants.{TD_K_MAX, TD_N_MAX, POINTS_MAX, COVER_MAX, GDD_K_MAX, PBD_S_MAX}

-- how many numbers each kind takes
abbrev pub td_cells : ℕ
td_cells = (TD_K_MAX - 1) * TD_N_MAX

abbrev pub bibd_cells : ℕ
bibd_cells = (POINTS_MAX - 1) * (POINTS_MAX - 1) * COVER_MAX

abbrev pub gdd_cells : ℕ
gdd_cells = (GDD_K_MAX - 1) * (POINTS_MAX / 2) * (POINTS_MAX - 1)

abbrev pub pbd_cells : ℕ
pbd_cells = (POINTS_MAX - 1) * (PBD_S_MAX - 1)

-- the number of all cells
abbrev pub cells : ℕ
cells = td_cells + 2 * bibd_cells + bibd_cells + gdd_cells + pbd_cells

abbrev pub group_number : Group → ℕ
group_number Cyclic = 0
group_number Field = 1

-- the number of v, k and l among all of them
abbrev pub triple_number : ℕ → ℕ → ℕ → ℕ
triple_number v k l = ((v - 2) * (POINTS_MAX - 1) + (k - 2)) * COVER_MAX + (l - 1)

-- the number of a question
unfoldable pub cell_of : Query → ℕ
cell_of (Td k n) = (k - 2) * TD_N_MAX + (n - 1)
cell_of (Df group v k l) = td_cells + group_number group * bibd_cells + triple_number v k l
cell_of (Bibd v k l) = td_cells + 2 * bibd_cells + triple_number v k l
cell_of (Gdd k g u) = td_cells + 2 * bibd_cells + bibd_cells + ((k - 2) * (POINTS_MAX / 2) + (g - 1)) * (POINTS_MAX - 1) + (u - 2)
cell_of (Pbd v s) = td_cells + 2 * bibd_cells + bibd_cells + gdd_cells + (v - 2) * (PBD_S_MAX - 1) + (s - 2)
