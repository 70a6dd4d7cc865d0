-- What it says of the numbers of a question that it is in bounds.
use Rattle.std.proofs.Common.{◌≡◌, ℕ, ◌*◌, ◌≤◌, true, arith}
use Rattle.std.proofs.lemmas.Bool.Decides.{nat_tests}
use Rattle.design_base.specs.declared.limits.TheConstants.{COVER_MAX, GDD_K_MAX, PBD_S_MAX, POINTS_MAX, TD_K_MAX, TD_N_MAX}
use Rattle.design_base.specs.declared.query.Group.{Group}
use Rattle.design_base.specs.declared.query.Query.TheVariants.{Td, Df, Bibd, Gdd, Pbd}
use Rattle.design_base.specs.Limits.{in_bounds}

pub td_numbers : (k n : ℕ) → in_bounds (Td k n) ≡ true → (2 ≤ k) × (k ≤ TD_K_MAX) × (1 ≤ n) × (n ≤ TD_N_MAX)
unfolding in_bounds
td_numbers k n e = grind (arith, nat_tests)

pub df_numbers : (group : Group) (v k l : ℕ) → in_bounds (Df group v k l) ≡ true → (2 ≤ k) × (k ≤ v) × (v ≤ POINTS_MAX) × (1 ≤ l) × (l ≤ COVER_MAX)
unfolding in_bounds
df_numbers group v k l e = grind (arith, nat_tests)

pub bibd_numbers : (v k l : ℕ) → in_bounds (Bibd v k l) ≡ true → (2 ≤ k) × (k ≤ v) × (v ≤ POINTS_MAX) × (1 ≤ l) × (l ≤ COVER_MAX)
unfolding in_bounds
bibd_numbers v k l e = grind (arith, nat_tests)

pub gdd_numbers : (k g u : ℕ) → in_bounds (Gdd k g u) ≡ true → (2 ≤ k) × (k ≤ GDD_K_MAX) × (1 ≤ g) × (2 ≤ u) × (g * u ≤ POINTS_MAX)
unfolding in_bounds
gdd_numbers k g u e = grind (arith, nat_tests)

pub pbd_numbers : (v s : ℕ) → in_bounds (Pbd v s) ≡ true → (2 ≤ v) × (v ≤ POINTS_MAX) × (2 ≤ s) × (s ≤ PBD_S_MAX)
unfolding in_bounds
pbd_numbers v s e = grind (arith, nat_tests)

pub ruleset bounds_laws = (td_numbers, df_numbers, bibd_numbers, gdd_numbers, pbd_numbers)
