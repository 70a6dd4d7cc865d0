-- What the conditions of fillings give: room for the loops, the blocks, and the design.
use Rattle.std.proofs.Common.{List, ap, arith, subst, sym, ℕ, ◌*◌, ◌++◌, ◌%◌, ◌+◌, ◌/◌, ◌<◌, ◌∙◌, ◌≡◌, ◌≤◌, suc, zero}
use Rattle.std.proofs.Math.Nat.{mul_assoc, mul_comm}
use Rattle.std.proofs.lemmas.List.Elements.{All-weaker}
use Rattle.std.proofs.lemmas.Nat.{mul-le}
use Rattle.counting.proofs.Division.{whole_times}
use Rattle.std.specs.Prelude.{All}
use Rattle.design_base.specs.Blocks.{IsBibd, IsGdd, IsPbd}
use Rattle.design_base.specs.Canonical.{canonical}
use Rattle.design_base.specs.declared.limits.TheConstants.{POINTS_MAX}
use Rattle.incidence.specs.Packed.{size_of}
use Rattle.gdd_pbd.proofs.Copies.{fill_by_groups, fill_with_point_by_groups}
use Rattle.gdd_pbd.proofs.Filled.{fill_is_bibd, split_is_gdd, td_fill_is_pbd}
use Rattle.gdd_pbd.proofs.FilledWithPoint.{fill_with_point_is_bibd, td_fill_with_point_is_pbd}
use Rattle.gdd_pbd.proofs.Sizes.{IsSmall, small_bibd, small_gdd, small_pbd}
use Rattle.gdd_pbd.specs.Conditions.{CanFill, CanTdFill, CanTdFillWithPoint, CanFillWithPoint, CanSplit}
use Rattle.gdd_pbd.specs.Room.{CanFillGroups, FitsIn, most_size}
use Rattle.gdd_pbd.specs.Filling.{fill, fill_with_point, groups_of}

pub wider : (n m : ℕ) (B : List (List ℕ)) → n ≤ m → All (FitsIn n) B → All (FitsIn m) B
wider n m B l all = All-weaker (FitsIn n) (FitsIn m) (λ b f. record { few = f.few; below = All-weaker (λ p. p < n) (λ p. p < m) (λ p h. omega arith) b f.below }) B all

pub factor : (a b : ℕ) → 0 < a → b ≤ a * b
factor zero b pos = absurd (omega arith)
factor (suc a) b pos = omega arith

fill_groups : (g u w : ℕ) (G D : List (List ℕ)) → 0 < g → 0 < u → g * u ≤ POINTS_MAX → w ≤ 2 * g → IsSmall (g * u) G → IsSmall w D → CanFillGroups g u G D
fill_groups g u w G D some groups points l master design = let most : u ≤ POINTS_MAX = omega (arith, factor g u some) in record {
  some = some;
  points = omega (arith, factor u g groups, points);
  groups = omega (arith, mul_comm u g, points);
  fits = wider w (2 * g) D l design.fits;
  room = omega (arith, master.size, mul-le u (size_of D) POINTS_MAX most_size most design.size);
}

module _ (k g u : ℕ) (G D : List (List ℕ)) (can : CanFill k g u G D) where
  pub fill_small : CanFillGroups g u G D
  fill_small = fill_groups g u g G D can.some can.groups can.points (omega arith) (small_gdd k g u G can.two can.points can.gdd) (small_bibd g k D can.two (omega (arith, can.points, factor u g can.groups)) can.design)

  pub fill_blocks : (rows : List (List ℕ)) → rows ≡ canonical (G ++ groups_of g u D u) → rows ≡ canonical (fill g u G D)
  fill_blocks rows is = is ∙ ap canonical (sym (fill_by_groups g u G D can.some (small_bibd g k D can.two (omega (arith, can.points, factor u g can.groups)) can.design).fits))

  pub fill_design : (rows : List (List ℕ)) → rows ≡ canonical (G ++ groups_of g u D u) → IsBibd rows (g * u) k 1
  fill_design rows is = subst (λ B. IsBibd B (g * u) k 1) (sym (fill_blocks rows is)) (fill_is_bibd g u k G D can.some can.gdd can.design)

module _ (k g u : ℕ) (G D : List (List ℕ)) (can : CanFillWithPoint k g u G D) where
  with_point_bibd_small : IsSmall (g + 1) D
  with_point_bibd_small = small_bibd (g + 1) k D can.two (omega (arith, can.points, factor u g can.groups)) can.design

  pub fill_with_point_small : CanFillGroups g u G D
  fill_with_point_small = fill_groups g u (g + 1) G D can.some can.groups (omega (arith, can.points)) (omega (arith, can.some)) (small_gdd k g u G can.two (omega (arith, can.points)) can.gdd) with_point_bibd_small

  pub fill_with_point_blocks : (rows : List (List ℕ)) → rows ≡ canonical (G ++ groups_of g u D u) → rows ≡ canonical (fill_with_point g u G D)
  fill_with_point_blocks rows is = is ∙ ap canonical (sym (fill_with_point_by_groups g u G D can.some with_point_bibd_small.fits))

  pub fill_with_point_design : (rows : List (List ℕ)) → rows ≡ canonical (G ++ groups_of g u D u) → IsBibd rows (g * u + 1) k 1
  fill_with_point_design rows is = subst (λ B. IsBibd B (g * u + 1) k 1) (sym (fill_with_point_blocks rows is)) (fill_with_point_is_bibd g u k G D can.some can.gdd can.design)

-- a whole number of parts
parts_of : (u c : ℕ) → u % c ≡ 0 → c * (u / c) ≡ u
parts_of u c e = mul_comm c (u / c) ∙ whole_times u c e

pub positive : (a b c : ℕ) → a * b ≡ c → 0 < c → 0 < b
positive a zero c e pos = absurd (omega arith)
positive a (suc b) c e pos = omega arith

module _ (k g u c : ℕ) (G D : List (List ℕ)) (can : CanSplit k g u c G D) where
  area : g * c * (u / c) ≡ g * u
  area = mul_assoc g c (u / c) ∙ ap (λ n. g * n) (parts_of u c can.whole)

  inner_points : g * c ≤ POINTS_MAX
  inner_points = omega (arith, can.points, area, factor (u / c) (g * c) (positive c (u / c) u (parts_of u c can.whole) can.groups))

  filler_small : IsSmall (g * c) D
  filler_small = small_gdd k g c D can.two inner_points can.filler

  inner_some : 0 < g * c
  inner_some = omega (arith, factor g c can.some, can.parts)

  pub split_small : CanFillGroups (g * c) (u / c) G D
  split_small = fill_groups (g * c) (u / c) (g * c) G D inner_some (positive c (u / c) u (parts_of u c can.whole) can.groups) (omega (arith, can.points, area)) (omega arith)
      (small_gdd k (g * c) (u / c) G can.two (omega (arith, can.points, area)) can.master) filler_small

  pub split_blocks : (rows : List (List ℕ)) → rows ≡ canonical (G ++ groups_of (g * c) (u / c) D (u / c)) → rows ≡ canonical (fill (g * c) (u / c) G D)
  split_blocks rows is = is ∙ ap canonical (sym (fill_by_groups (g * c) (u / c) G D inner_some filler_small.fits))

  pub split_design : (rows : List (List ℕ)) → rows ≡ canonical (G ++ groups_of (g * c) (u / c) D (u / c)) → IsGdd rows k g u
  split_design rows is = subst (λ h. IsGdd rows k g h) (parts_of u c can.whole) (subst (λ B. IsGdd B k g (c * (u / c))) (sym (split_blocks rows is)) (split_is_gdd g c (u / c) k G D can.some can.parts can.master can.filler))

module _ (s t : ℕ) (T P : List (List ℕ)) (can : CanTdFill s t T P) where
  group_small : IsSmall t P
  group_small = small_pbd t s P can.two (omega (arith, can.points, factor s t (omega (arith, can.two)))) can.group

  pub td_fill_small : CanFillGroups t s T P
  td_fill_small = fill_groups t s t T P can.some (omega (arith, can.two)) (omega (arith, mul_comm t s, can.points)) (omega arith) (small_gdd s t s T can.two (omega (arith, mul_comm t s, can.points)) can.td) group_small

  pub td_fill_blocks : (rows : List (List ℕ)) → rows ≡ canonical (T ++ groups_of t s P s) → rows ≡ canonical (fill t s T P)
  td_fill_blocks rows is = is ∙ ap canonical (sym (fill_by_groups t s T P can.some group_small.fits))

  pub td_fill_design : (rows : List (List ℕ)) → rows ≡ canonical (T ++ groups_of t s P s) → IsPbd rows (s * t) s
  td_fill_design rows is = subst (λ B. IsPbd B (s * t) s) (sym (td_fill_blocks rows is)) (td_fill_is_pbd s t T P can.some can.td can.group)

module _ (s c t : ℕ) (T P : List (List ℕ)) (can : CanTdFillWithPoint s c t T P) where
  two_groups : 2 ≤ c
  two_groups = omega (arith, can.two, can.groups)

  group_with_point_small : IsSmall (t + 1) P
  group_with_point_small = small_pbd (t + 1) s P can.two (omega (arith, can.points, factor c t (omega (arith, two_groups)))) can.group

  pub td_fill_with_point_small : CanFillGroups t c T P
  td_fill_with_point_small = fill_groups t c (t + 1) T P can.some (omega (arith, two_groups)) (omega (arith, mul_comm t c, can.points)) (omega (arith, can.some)) (small_gdd c t c T two_groups (omega (arith, mul_comm t c, can.points)) can.td) group_with_point_small

  pub td_fill_with_point_blocks : (rows : List (List ℕ)) → rows ≡ canonical (T ++ groups_of t c P c) → rows ≡ canonical (fill_with_point t c T P)
  td_fill_with_point_blocks rows is = is ∙ ap canonical (sym (fill_with_point_by_groups t c T P can.some group_with_point_small.fits))

  pub td_fill_with_point_design : (rows : List (List ℕ)) → rows ≡ canonical (T ++ groups_of t c P c) → IsPbd rows (c * t + 1) s
  td_fill_with_point_design rows is = subst (λ n. IsPbd rows (n + 1) s) (mul_comm t c) (subst (λ B. IsPbd B (t * c + 1) s) (sym (td_fill_with_point_blocks rows is)) (td_fill_with_point_is_pbd s t c T P can.some can.groups can.td can.group))
