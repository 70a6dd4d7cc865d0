-- What the builders give are transversal designs.
use Rattle.std.proofs.Common.{List, [], ap, arith, drop, get_or, length, map, refl, subst, suc, sym, zero, ℕ, ◌*◌, ◌+◌, ◌<◌, ◌∙◌, ◌≡◌, ◌≢◌, ◌≤◌}
use Rattle.std.proofs.Math.Nat.{mul-le-mul_left}
use Rattle.std.specs.List.{remove}
use Rattle.std.specs.Prelude.{All}
use Rattle.design_base.proofs.Groups.{oa_from_td}
use Rattle.design_base.specs.Arrays.{IsOa, IsRow, rows_of_blocks}
use Rattle.design_base.specs.Blocks.{IsTd}
use Rattle.design_base.specs.Canonical.{canonical}
use Rattle.incidence.proofs.RowsAndBlocks.{length_of_td}
use Rattle.transversal.proofs.Designs.{td_of_oa}
use Rattle.wilson.proofs.Apart.{first_apart-below, first_apart-differs}
use Rattle.wilson.proofs.HoledArray.{holed_is, holed_twice_is}
use Rattle.wilson.proofs.OneGroup.{wilson_one_is_oa}
use Rattle.wilson.proofs.TwoGroups.{wilson_two_is_oa}
use Rattle.wilson.specs.Conditions.{CanTruncateOnce, CanTruncateTwice}
use Rattle.wilson.specs.Holes.{first_apart, holed, holed_twice, renumbered_row_twice}
use Rattle.wilson.specs.Truncations.{wilson_one_blocks, wilson_one_rows, wilson_two_blocks, wilson_two_rows}

-- ---- the stated lists, wherever the construction has what it needs
module _ (k m t u : ℕ) (M A E U : List (List ℕ)) (can : CanTruncateOnce k m t u M A E U) where
  pub wilson_one_array : IsOa (wilson_one_rows k m t u (rows_of_blocks t M) (rows_of_blocks m A) (rows_of_blocks (m + 1) E) (rows_of_blocks u U)) k (m * t + u)
  wilson_one_array =
      wilson_one_is_oa k m t u (rows_of_blocks t M) (rows_of_blocks m A) (rows_of_blocks (m + 1) E) (rows_of_blocks u U)
      (oa_from_td (k + 1) t M (omega (arith, can.some_kept, can.kept)) can.master (omega (arith, can.two_groups))) (oa_from_td k m A can.one_symbol can.small can.two_groups)
      (oa_from_td k (m + 1) E (omega arith) can.large can.two_groups) (oa_from_td k u U can.some_kept can.rest can.two_groups) can.one_symbol can.kept can.two_groups

  pub wilson_one_design : IsTd (canonical (wilson_one_blocks k m t u M A E U)) k (m * t + u)
  wilson_one_design =
      td_of_oa k (m * t + u) (wilson_one_rows k m t u (rows_of_blocks t M) (rows_of_blocks m A) (rows_of_blocks (m + 1) E) (rows_of_blocks u U)) (omega (arith, can.some_kept)) wilson_one_array

module _ (k m t u w : ℕ) (M A E F U W : List (List ℕ)) (can : CanTruncateTwice k m t u w M A E F U W) where
  pub wilson_two_array :
      IsOa (wilson_two_rows k m t u w (rows_of_blocks t M) (rows_of_blocks m A) (rows_of_blocks (m + 1) E) (rows_of_blocks (m + 2) F) (rows_of_blocks u U) (rows_of_blocks w W)) k (m * t + u + w)
  wilson_two_array =
      wilson_two_is_oa k m t u w (rows_of_blocks t M) (rows_of_blocks m A) (rows_of_blocks (m + 1) E) (rows_of_blocks (m + 2) F) (rows_of_blocks u U) (rows_of_blocks w W)
      can.two_groups can.one_symbol can.few_groups can.first_kept can.second_kept
      (oa_from_td (k + 2) t M (omega (arith, can.first_some_kept, can.first_kept)) can.master (omega (arith, can.two_groups))) (oa_from_td k m A can.one_symbol can.small can.two_groups)
      (oa_from_td k (m + 1) E (omega arith) can.large can.two_groups) (oa_from_td k (m + 2) F (omega arith) can.larger can.two_groups)
      (oa_from_td k u U can.first_some_kept can.first_rest can.two_groups) (oa_from_td k w W can.second_some_kept can.second_rest can.two_groups)

  pub wilson_two_design : IsTd (canonical (wilson_two_blocks k m t u w M A E F U W)) k (m * t + u + w)
  wilson_two_design =
      td_of_oa k (m * t + u + w)
      (wilson_two_rows k m t u w (rows_of_blocks t M) (rows_of_blocks m A) (rows_of_blocks (m + 1) E) (rows_of_blocks (m + 2) F) (rows_of_blocks u U) (rows_of_blocks w W))
      (omega (arith, can.first_some_kept)) wilson_two_array

-- the orders of the ingredients are within that of the design
pub group_within : (m t : ℕ) → 1 ≤ m → t ≤ m * t
group_within (suc m) t some = omega arith
group_within zero t some = absurd (omega arith)

pub order_within : (m t : ℕ) → 2 ≤ t → m + m ≤ m * t
order_within m t two = omega (arith, mul-le-mul_left m two)

pub some_block : (k n : ℕ) (B : List (List ℕ)) → 2 ≤ k → 1 ≤ n → IsTd B k n → 0 < length B
some_block k n B two some td = omega (arith, length_of_td k n B td two some, mul-le-mul_left n some)

-- an array without its first row
module _ (k m : ℕ) (R S : List (List ℕ)) (oa : IsOa R k (m + 1)) (is : S ≡ holed k m R) where
  pub holed_rows : All (IsRow k (m + 1)) S
  holed_rows = subst (All (IsRow k (m + 1))) (sym is) (holed_is k m R oa).rows

-- an array without two rows
module _ (k m e : ℕ) (R : List (List ℕ)) (two : 2 ≤ k) (few : k ≤ m + 2) (oa : IsOa R k (m + 2)) (apart : e ≡ first_apart k R) where
  pub apart_within : e < length R
  apart_within = omega (arith, apart, first_apart-below k (m + 2) two (omega arith) few R oa)

  pub apart_differs : (j : ℕ) → j < k → get_or (get_or R 0 []) j 0 ≢ get_or (get_or R e []) j 0
  apart_differs j l = rw apart (first_apart-differs k (m + 2) two (omega arith) few R oa j l)

  pub apart_second : 1 ≤ e
  apart_second = positive e apart_differs
    where
      positive : (e : ℕ) → ((j : ℕ) → j < k → get_or (get_or R 0 []) j 0 ≢ get_or (get_or R e []) j 0) → 1 ≤ e
      positive zero differs = absurd (differs 0 (omega arith) refl)
      positive (suc e) differs = omega arith

  module _ (S : List (List ℕ)) (is : S ≡ map (renumbered_row_twice k m (get_or R 0 []) (get_or R e [])) (drop 1 (remove R e))) where
    pub holed_twice_without : S ≡ holed_twice k m R
    unfolding holed_twice
    holed_twice_without = is ∙ ap (λ e. map (renumbered_row_twice k m (get_or R 0 []) (get_or R e [])) (drop 1 (remove R e))) apart

    pub holed_twice_rows : All (IsRow k (m + 2)) S
    holed_twice_rows = subst (All (IsRow k (m + 2))) (sym holed_twice_without) (holed_twice_is k m R two few oa).rows
