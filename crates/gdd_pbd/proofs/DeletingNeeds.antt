-- The points of a BIBD over the groups that the blocks through its last point are.
use Rattle.std.proofs.Common.{Bool, List, None, Some, ap, arith, inl, inr, length, not, subst, sym, ℕ, ◌%◌, ◌*◌, ◌+◌, ◌-◌, ◌/◌, ◌<◌, ◌∙◌, ◌≡◌, ◌≤◌}
use Rattle.std.proofs.Math.Nat.{mul-div_cancel_left, mul_comm}
use Rattle.counting.proofs.Division.{whole_times}
use Rattle.std.proofs.lemmas.List.Elements.{All-from_recursion, All-weaker, recursion_from_All}
use Rattle.std.specs.List.{position_or_len}
use Rattle.counting.proofs.Booleans.{cases_lt}
use Rattle.std.proofs.lemmas.List.Sums.{prefix_len-le-length}
use Rattle.std.proofs.lemmas.Grind.{common_steps}
use Rattle.std.specs.Prelude.{All, position}
use Rattle.design_base.proofs.Points.{misses}
use Rattle.design_base.specs.Blocks.{IsBibd, IsGdd, IsPbd}
use Rattle.design_base.specs.Canonical.{canonical}
use Rattle.design_base.specs.declared.limits.TheConstants.{POINTS_MAX}
use Rattle.incidence.specs.Packed.{size_of}
use Rattle.gdd_pbd.proofs.FillingNeeds.{factor, positive}
use Rattle.gdd_pbd.proofs.Deleted.{delete_is_gdd, group_exists, groups_counted, rank_small}
use Rattle.gdd_pbd.proofs.Dropped.{drop_point_is_pbd}
use Rattle.gdd_pbd.proofs.Sizes.{IsSmall, small_bibd}
use Rattle.gdd_pbd.specs.Conditions.{CanDeletePoint, CanDropPoint}
use Rattle.gdd_pbd.specs.Room.{CanDeleteLast, FitsIn, HasName, HasNames, IsShort, most_size}
use Rattle.gdd_pbd.specs.Deleting.{below_point, delete_last, groups_at}

pub position_some : {X : Type 0} (p : X → Bool) (xs : List X) (i : ℕ) → Some i ≡ position p xs → i ≡ position_or_len p xs
position_some p xs i is = grind (arith, common_steps)

pub position_none : {X : Type 0} (p : X → Bool) (xs : List X) → None ≡ position p xs → length xs ≡ position_or_len p xs
position_none p xs is = let most : position_or_len p xs ≤ length xs = prefix_len-le-length (λ x. not (p x)) xs in elim (cases_lt (position_or_len p xs) (length xs)) [
  | inl l ↦ absurd (grind (arith, common_steps))
  | inr l ↦ omega arith
]

short : (n : ℕ) (B : List (List ℕ)) → All (FitsIn n) B → All IsShort B
short n B all = All-weaker (FitsIn n) IsShort (λ b f. f.few) B all

module _ (v s : ℕ) (B : List (List ℕ)) (can : CanDropPoint v s B) where
  drop_small : IsSmall v B
  drop_small = small_bibd v (s + 1) B (omega (arith, can.blocks)) can.points can.design

  pub drop_short : All IsShort B
  drop_short = short v B drop_small.fits

  pub drop_size : size_of B ≤ most_size
  drop_size = drop_small.size

  pub drop_design : (rows : List (List ℕ)) → rows ≡ canonical (below_point (v - 1) B) → IsPbd rows (v - 1) s
  drop_design rows is = let one_more : v ≡ v - 1 + 1 = omega (arith, can.some) in subst (λ C. IsPbd C (v - 1) s) (sym is) (drop_point_is_pbd (v - 1) s B (subst (λ n. IsBibd B n (s + 1) 1) one_more can.design))

module _ (g u : ℕ) (B : List (List ℕ)) (can : CanDeleteLast g u B) where
  last_small : IsSmall (g * u + 1) B
  last_small = small_bibd (g * u + 1) (g + 1) B (omega (arith, can.some)) can.points can.design

  pub last_short : All IsShort B
  last_short = short (g * u + 1) B last_small.fits

  pub last_size : size_of B ≤ most_size
  last_size = last_small.size

  pub last_groups : length (groups_at (g * u) B) ≡ u
  last_groups = groups_counted g u B can.some can.design

  pub last_few : u ≤ POINTS_MAX
  last_few = omega (arith, can.points, factor g u can.some)

  pub last_points : g ≤ POINTS_MAX
  last_points = omega (arith, can.points, factor u g can.groups)

  named : (x : ℕ) → x < g * u → HasName g (groups_at (g * u) B) x
  named x l = record {
    group = group_exists g u B can.some can.design x l;
    rank = rank_small g u B can.some can.design x l;
  }

  pub last_names : All (HasNames g (g * u) (groups_at (g * u) B)) B
  last_names = All-weaker (FitsIn (g * u + 1)) (HasNames g (g * u) (groups_at (g * u) B)) (λ b f. record {
    few = f.few;
    names = λ e. All-weaker (λ x. x < g * u) (HasName g (groups_at (g * u) B)) named b (All-from_recursion (λ x. x < g * u) b (misses (g * u) b e (recursion_from_All (λ x. x < g * u + 1) b f.below)));
  }) B last_small.fits

  pub last_design : (rows : List (List ℕ)) → rows ≡ canonical (delete_last g u B) → IsGdd rows (g + 1) g u
  last_design rows is = subst (λ C. IsGdd C (g + 1) g u) (sym is) (delete_is_gdd g u B can.some can.design)

-- all points are those of the groups of k - 1, and one more
pub points_of_groups : (v k : ℕ) → 1 ≤ v → (v - 1) % (k - 1) ≡ 0 → v ≡ (k - 1) * ((v - 1) / (k - 1)) + 1
points_of_groups v k some whole = omega (arith, whole_times (v - 1) (k - 1) whole, some, mul_comm (k - 1) ((v - 1) / (k - 1)))

-- and u groups and one point more leave u groups
pub groups_of_points : (k u : ℕ) → 2 ≤ k → ((k - 1) * u + 1 - 1) / (k - 1) ≡ u
groups_of_points k u two = ap (λ n. n / (k - 1)) (let e : (k - 1) * u + 1 - 1 ≡ (k - 1) * u = omega arith in e) ∙ mul-div_cancel_left u (let some : 0 < k - 1 = omega arith in some)

module _ (v k : ℕ) (B : List (List ℕ)) (can : CanDeletePoint v k B) where
  area : v ≡ (k - 1) * ((v - 1) / (k - 1)) + 1
  area = points_of_groups v k (omega (arith, can.some)) can.whole

  size : k ≡ k - 1 + 1
  size = omega (arith, can.two)

  pub delete_last_can : CanDeleteLast (k - 1) ((v - 1) / (k - 1)) B
  delete_last_can = record {
    some = omega (arith, can.two);
    groups = positive (k - 1) ((v - 1) / (k - 1)) (v - 1) (omega (arith, sym area)) (omega (arith, can.some));
    points = omega (arith, sym area, can.points);
    design = subst (λ n. IsBibd B n (k - 1 + 1) 1) area (subst (λ m. IsBibd B v m 1) size can.design);
  }

  pub delete_design : (rows : List (List ℕ)) → IsGdd rows (k - 1 + 1) (k - 1) ((v - 1) / (k - 1)) → IsGdd rows k (k - 1) ((v - 1) / (k - 1))
  delete_design rows d = subst (λ m. IsGdd rows m (k - 1) ((v - 1) / (k - 1))) (sym size) d
