-- What the conditions of truncated transversal designs give.
use Rattle.std.proofs.Common.{List, None, Option, Some, ap, arith, subst, sym, ℕ, ◌*◌, ◌++◌, ◌+◌, ◌/◌, ◌<◌, ◌∙◌, ◌≡◌, ◌≤◌}
use Rattle.std.proofs.lemmas.List.{append_assoc}
use Rattle.std.proofs.lemmas.List.Elements.{All-weaker}
use Rattle.std.specs.Prelude.{All, IfSome}
use Rattle.design_base.specs.Blocks.{IsBlock, IsPbd, across}
use Rattle.std.proofs.lemmas.Nat.{mul-le}
use Rattle.design_base.specs.Canonical.{canonical}
use Rattle.design_base.specs.declared.limits.TheConstants.{POINTS_MAX}
use Rattle.incidence.specs.Packed.{size_of}
use Rattle.gdd_pbd.proofs.FillingNeeds.{factor, wider}
use Rattle.gdd_pbd.proofs.Copies.{groups_plain}
use Rattle.gdd_pbd.proofs.Sizes.{IsSmall, across_most, size_most, small_pbd}
use Rattle.gdd_pbd.proofs.Truncated.{truncate_is_pbd}
use Rattle.gdd_pbd.specs.Conditions.{CanTruncatePbd}
use Rattle.gdd_pbd.specs.Room.{FitsGroup, FitsIn, IsShort, most_size}
use Rattle.gdd_pbd.specs.Filling.{groups_of}
use Rattle.gdd_pbd.specs.Deleting.{below_point}
use Rattle.gdd_pbd.specs.Truncating.{last_group, truncated}

pub last_design_fits : (s t u : ℕ) (T P : List (List ℕ)) (rest : Option (List (List ℕ))) → CanTruncatePbd s t u T P rest → IfSome rest (FitsGroup t)
last_design_fits s t u T P None can = tt
last_design_fits s t u T P (Some Q) can = let small = small_pbd u s Q can.two (omega (arith, can.points)) can.last.1 in record {
  fits = wider u t Q can.fits small.fits;
  size = small.size;
}

module _ (s t u : ℕ) (T P : List (List ℕ)) (rest : Option (List (List ℕ))) (can : CanTruncatePbd s t u T P rest) where
  columns_most : s ≤ POINTS_MAX / 2
  columns_most = omega (arith, can.points, mul-le s 2 s t (omega arith) can.some)

  rows_most : t ≤ POINTS_MAX / 2
  rows_most = omega (arith, can.points, mul-le 2 t s t can.two (omega arith))

  all_points : t * (s + 1) ≤ POINTS_MAX + POINTS_MAX / 2
  all_points = omega (arith, can.points, rows_most, expand t s)
    where
      expand : (t s : ℕ) → t * (s + 1) ≡ s * t + t
      expand t s = omega arith

  td_size : size_of T ≤ 6 * most_size
  td_size = omega (
    arith,
    size_most (t * (s + 1)) 1 (λ z. z ≡ s + 1) (across t) T (λ z e. omega (arith, can.two)) (across_most t) can.td,
    mul-le (t * (s + 1)) (t * (s + 1)) (POINTS_MAX + POINTS_MAX / 2) (POINTS_MAX + POINTS_MAX / 2) all_points all_points,
  )

  points_most : t ≤ POINTS_MAX
  points_most = omega (arith, can.points, factor s t (omega (arith, can.two)))

  group_small : IsSmall t P
  group_small = small_pbd t s P can.two points_most can.group

  pub cut_weight : (0 < t) × (t ≤ POINTS_MAX)
  cut_weight = (omega (arith, can.some), points_most)

  pub cut_groups : s * t ≤ POINTS_MAX
  cut_groups = omega (arith, can.points)

  pub cut_short : All IsShort T
  cut_short = All-weaker (IsBlock (t * (s + 1)) (λ z. z ≡ s + 1)) IsShort (λ b f. omega (arith, f.size, columns_most)) T can.td.blocks

  pub cut_sizes : (size_of T ≤ 6 * most_size) × (size_of P ≤ most_size)
  cut_sizes = (td_size, group_small.size)

  pub cut_fits : All (FitsIn (2 * t)) P
  cut_fits = wider t (2 * t) P (omega arith) group_small.fits

  pub cut_blocks : (rows : List (List ℕ)) → rows ≡ canonical (below_point (s * t + u) T ++ groups_of t s P s ++ last_group t s rest) → rows ≡ canonical (truncated s t u T P rest)
  unfolding truncated
  cut_blocks rows is = is ∙ ap canonical (append_assoc (below_point (s * t + u) T) (groups_of t s P s) (last_group t s rest) ∙ ap (λ xs. below_point (s * t + u) T ++ (xs ++ last_group t s rest)) (sym (groups_plain t s P group_small.fits)))

  pub cut_design : (rows : List (List ℕ)) → rows ≡ canonical (below_point (s * t + u) T ++ groups_of t s P s ++ last_group t s rest) → IsPbd rows (s * t + u) s
  cut_design rows is = subst (λ B. IsPbd B (s * t + u) s) (sym (cut_blocks rows is)) (truncate_is_pbd s t u T P rest (omega (arith, can.some)) (omega (arith, can.two)) can.fits can.td can.group can.last)
