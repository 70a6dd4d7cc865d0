-- What the builders give are transversal designs.
use Rattle.std.proofs.Common.{List, arith, length, subst, sym, ℕ, ◌*◌, ◌+◌, ◌<◌, ◌≡◌, ◌≤◌}
use Rattle.std.proofs.lemmas.Nat.{mul-le}
use Rattle.design_base.proofs.Canonical.{design_from_loose}
use Rattle.design_base.proofs.Groups.{oa_from_td}
use Rattle.design_base.proofs.Rows.{td_from_oa}
use Rattle.design_base.specs.Arrays.{IsOa, blocks_of_rows, rows_of_blocks}
use Rattle.design_base.specs.Blocks.{IsTd, across}
use Rattle.design_base.specs.Canonical.{canonical}
use Rattle.design_base.specs.Fields.{field_product, field_sum}
use Rattle.design_base.specs.Rings.{IsField}
use Rattle.design_base.specs.declared.limits.TheConstants.{PACKED_MAX, TD_K_MAX, TD_N_MAX}
use Rattle.field_tables.proofs.Listed.{listed_field}
use Rattle.transversal.proofs.CyclicArray.{cyclic_is_oa}
use Rattle.transversal.proofs.OneArray.{one_is_oa}
use Rattle.transversal.proofs.ParkerArray.{parker_is_oa}
use Rattle.transversal.proofs.FieldArray.{field_is_oa}
use Rattle.transversal.proofs.ProductArray.{product_is_oa}
use Rattle.transversal.specs.Conditions.{CanBuildCyclic, CanBuildField, CanBuildOne, CanMultiply, CanUseParker}
use Rattle.transversal.specs.Constructions.{cyclic_blocks, cyclic_rows, field_blocks, field_rows, one_blocks, one_rows, parker_blocks, parker_rows, product_blocks, product_rows}

-- the blocks of an array
pub td_of_oa : (k n : ℕ) (R : List (List ℕ)) → 0 < n → IsOa R k n → IsTd (canonical (blocks_of_rows k n R)) k n
td_of_oa k n R pos oa = design_from_loose (n * k) (λ s. s ≡ k) (blocks_of_rows k n R) (across n) (td_from_oa k n R pos oa)

-- ---- the stated lists, wherever the construction has what it needs
pub one_design : (k : ℕ) → CanBuildOne k → IsTd (canonical (one_blocks k)) k 1
one_design k can = td_of_oa k 1 (one_rows k) (omega arith) (one_is_oa k can.two_groups)

pub cyclic_design : (k n : ℕ) → CanBuildCyclic k n → IsTd (canonical (cyclic_blocks k n)) k n
cyclic_design k n can = td_of_oa k n (cyclic_rows k n) can.one_point (cyclic_is_oa k n can.two_groups can.columns can.one_point)

pub field_design : (k q : ℕ) → CanBuildField k q → IsTd (canonical (field_blocks k q)) k q
field_design k q can =
    let field : IsField q (field_sum q) (field_product q) = listed_field q can.listed in
    let one_below : 1 < q = field.ring.one_below in
    td_of_oa k q (field_rows k q) (omega arith) (field_is_oa k q field can.two_groups can.columns)

pub product_design : (k a b : ℕ) (A B : List (List ℕ)) → CanMultiply k a b A B → IsTd (canonical (product_blocks k a b A B)) k (a * b)
product_design k a b A B can =
    td_of_oa k (a * b) (product_rows k b (rows_of_blocks a A) (rows_of_blocks b B)) (grind (arith, can.first_points, can.second_points))
    (product_is_oa k a b (rows_of_blocks a A) (rows_of_blocks b B)
    (oa_from_td k a A can.first_points can.first can.two_groups) (oa_from_td k b B can.second_points can.second can.two_groups) can.second_points)

pub parker_design : (m : ℕ) (A : List (List ℕ)) → CanUseParker m A → IsTd (canonical (parker_blocks m A)) 4 (3 * m + 1)
parker_design m A can =
    td_of_oa 4 (3 * m + 1) (parker_rows m (rows_of_blocks m A)) (omega arith) (parker_is_oa m (rows_of_blocks m A) (oa_from_td 4 m A can.one_point can.inner (omega arith)))

-- ---- how much room arrays take
pub few_rows : (k n : ℕ) (R : List (List ℕ)) → n ≤ TD_N_MAX → IsOa R k n → length R ≤ TD_N_MAX * TD_N_MAX
few_rows k n R most oa = subst (λ rows. rows ≤ TD_N_MAX * TD_N_MAX) (sym oa.count) (mul-le n n TD_N_MAX TD_N_MAX most most)

pub rows_fit : (k n : ℕ) (R : List (List ℕ)) → k ≤ TD_K_MAX → n ≤ TD_N_MAX → IsOa R k n → (k + 1) * length R < PACKED_MAX
rows_fit k n R few most oa = omega (arith, mul-le (k + 1) (length R) (TD_K_MAX + 1) (TD_N_MAX * TD_N_MAX) (omega arith) (few_rows k n R most oa))

pub product_fits : (k a b : ℕ) (R S : List (List ℕ)) → k ≤ TD_K_MAX → 1 ≤ b → a * b ≤ TD_N_MAX → IsOa R k a → IsOa S k b → (k + 1) * length (product_rows k b R S) < PACKED_MAX
product_fits k a b R S few some most first second = rows_fit k (a * b) (product_rows k b R S) few most (product_is_oa k a b R S first second some)
