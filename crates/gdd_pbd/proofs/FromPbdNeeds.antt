-- What the conditions of a PBD that becomes a BIBD give.
use Rattle.std.proofs.Common.{List, ap, ap₂, arith, length, subst, sym, ℕ, ◌*◌, ◌++◌, ◌+◌, ◌-◌, ◌<◌, ◌∙◌, ◌≡◌, ◌≤◌, ◌⊎◌}
use Rattle.std.proofs.Math.Nat.{mul_comm}
use Rattle.std.proofs.lemmas.List.Elements.{All-from_recursion, All-weaker}
use Rattle.std.specs.Prelude.{All}
use Rattle.design_base.proofs.Canonical.{IsPointSet}
use Rattle.design_base.specs.Blocks.{IsBibd, IsGdd}
use Rattle.design_base.specs.Canonical.{canonical}
use Rattle.design_base.specs.declared.limits.TheConstants.{POINTS_MAX}
use Rattle.incidence.specs.Packed.{size_of}
use Rattle.gdd_pbd.proofs.FillingNeeds.{factor, wider}
use Rattle.gdd_pbd.proofs.Copies.{fill_with_point_by_groups}
use Rattle.gdd_pbd.proofs.FromPbd.{from_pbd_is_bibd}
use Rattle.gdd_pbd.proofs.BasicDesigns.{whole_loose}
use Rattle.gdd_pbd.proofs.Sizes.{IsSmall, small_gdd, small_pbd}
use Rattle.gdd_pbd.proofs.WeightingNeeds.{can_replace, chosen_fits}
use Rattle.gdd_pbd.specs.Conditions.{CanPbdToBibd}
use Rattle.gdd_pbd.specs.Room.{CanDeleteLast, CanReplace, FitsIn, most_blocks, most_size}
use Rattle.gdd_pbd.specs.Deleting.{delete_last}
use Rattle.gdd_pbd.specs.Filling.{groups_of}
use Rattle.gdd_pbd.specs.FromPbd.{from_pbd}
use Rattle.gdd_pbd.specs.Basic.{whole_blocks}
use Rattle.gdd_pbd.specs.Weighting.{chosen, weighted}

whole_fits : (w : ℕ) → w + 1 ≤ POINTS_MAX → All (FitsIn (w + 1)) (whole_blocks (w + 1) 1)
whole_fits w most = All-weaker (IsPointSet (w + 1) (λ s. s ≡ w + 1)) (FitsIn (w + 1)) (λ b s. record { few = omega (arith, s.size); below = All-from_recursion (λ p. p < w + 1) b s.below }) (whole_blocks (w + 1) 1) (whole_loose (w + 1) 1).blocks

pub line_fits : (w : ℕ) (L : List (List ℕ)) → 0 < w → w + 1 ≤ POINTS_MAX → L ≡ whole_blocks (w + 1) 1 → All (FitsIn (2 * w)) L
line_fits w L pos most is = subst (All (FitsIn (2 * w))) (sym is) (wider (w + 1) (2 * w) (whole_blocks (w + 1) 1) (omega arith) (whole_fits w most))

module _ (n s k : ℕ) (P C D : List (List ℕ)) (can : CanPbdToBibd n s k P C D) where
  size : k ≡ k - 1 + 1
  size = omega (arith, can.two)

  some : 0 < k - 1
  some = omega (arith, can.two)

  pub first_can : CanDeleteLast (k - 1) s C
  first_can = record { some = some; groups = omega (arith, can.blocks); points = omega (arith, can.larger); design = subst (λ m. IsBibd C ((k - 1) * s + 1) m 1) size can.small }

  pub second_can : CanDeleteLast (k - 1) (s + 1) D
  second_can = record { some = some; groups = omega arith; points = can.larger; design = subst (λ m. IsBibd D ((k - 1) * (s + 1) + 1) m 1) size can.large }

  few : n ≤ POINTS_MAX
  few = omega (arith, can.points, factor (k - 1) n some)

  pbd_small : IsSmall n P
  pbd_small = small_pbd n s P can.blocks few can.pbd

  pub extend_points : (0 < k - 1) × (k - 1 + 1 ≤ POINTS_MAX)
  extend_points = (some, omega (arith, can.points, factor n (k - 1) can.groups, mul_comm n (k - 1)))

  pub extend_groups : n * (k - 1) ≤ POINTS_MAX
  extend_groups = omega (arith, can.points, mul_comm n (k - 1))

  pub extend_count : length P ≤ most_blocks
  extend_count = pbd_small.count

  module _ (E F : List (List ℕ)) (first : IsGdd E (k - 1 + 1) (k - 1) s) (second : IsGdd F (k - 1 + 1) (k - 1) (s + 1)) where
    first_small : IsSmall ((k - 1) * s) E
    first_small = small_gdd (k - 1 + 1) (k - 1) s E (omega (arith, can.two)) (omega (arith, can.larger)) first

    second_small : IsSmall ((k - 1) * (s + 1)) F
    second_small = small_gdd (k - 1 + 1) (k - 1) (s + 1) F (omega (arith, can.two)) (omega (arith, can.larger)) second

    pub extend_sizes : (size_of E ≤ most_size) × (size_of F ≤ most_size)
    extend_sizes = (first_small.size, second_small.size)

    pub extend_replace : All (CanReplace (k - 1) s E F) P
    extend_replace = can_replace (k - 1) s n (λ z. (z ≡ s) ⊎ (z ≡ s + 1)) E F P extend_groups (λ z e. chosen_fits (k - 1) s z E F first_small.fits second_small.fits e) can.pbd.blocks

  pub extend_blocks : (E F rows : List (List ℕ)) → E ≡ canonical (delete_last (k - 1) s C) → F ≡ canonical (delete_last (k - 1) (s + 1) D)
      → rows ≡ canonical (weighted (k - 1) (chosen s E F) P ++ groups_of (k - 1) n (whole_blocks (k - 1 + 1) 1) n) → rows ≡ canonical (from_pbd (k - 1) n s P C D)
  unfolding from_pbd
  extend_blocks E F rows first second is = is ∙ ap₂ (λ E F. canonical (weighted (k - 1) (chosen s E F) P ++ groups_of (k - 1) n (whole_blocks (k - 1 + 1) 1) n)) first second
      ∙ ap canonical (sym (fill_with_point_by_groups (k - 1) n (weighted (k - 1) (chosen s (canonical (delete_last (k - 1) s C)) (canonical (delete_last (k - 1) (s + 1) D))) P) (whole_blocks (k - 1 + 1) 1) some (whole_fits (k - 1) extend_points.1)))

  pub extend_design : (E F rows : List (List ℕ)) → E ≡ canonical (delete_last (k - 1) s C) → F ≡ canonical (delete_last (k - 1) (s + 1) D)
      → rows ≡ canonical (weighted (k - 1) (chosen s E F) P ++ groups_of (k - 1) n (whole_blocks (k - 1 + 1) 1) n) → IsBibd rows ((k - 1) * n + 1) k 1
  extend_design E F rows first second is = subst (λ m. IsBibd rows ((k - 1) * n + 1) m 1) (sym size)
      (subst (λ B. IsBibd B ((k - 1) * n + 1) (k - 1 + 1) 1) (sym (extend_blocks E F rows first second is)) (from_pbd_is_bibd (k - 1) n s P C D some can.pbd first_can.design second_can.design))
