-- What the conditions of weights give.
use Rattle.std.proofs.Common.{List, [], ap, ap₂, arith, inl, inr, length, refl, subst, sym, ℕ, ◌*◌, ◌++◌, ◌+◌, ◌/◌, ◌<◌, ◌∙◌, ◌∷◌, ◌≡◌, ◌≢◌, ◌≤◌, ◌⊎◌}
use Rattle.std.proofs.Math.Nat.{mul_comm}
use Rattle.counting.proofs.Division.{whole_times}
use Rattle.counting.proofs.Booleans.{cases_eq}
use Rattle.std.proofs.lemmas.List.Elements.{All-weaker}
use Rattle.std.specs.Prelude.{All}
use Rattle.design_base.specs.Blocks.{IsBlock, IsGdd}
use Rattle.design_base.specs.Canonical.{canonical}
use Rattle.design_base.specs.declared.limits.TheConstants.{POINTS_MAX}
use Rattle.incidence.specs.Packed.{size_of}
use Rattle.gdd_pbd.proofs.Sizes.{IsSmall, small_gdd}
use Rattle.gdd_pbd.proofs.FillingNeeds.{factor}
use Rattle.gdd_pbd.proofs.Steps.{chosen-first, chosen-second, groups_within}
use Rattle.gdd_pbd.proofs.Weighted.{weight_is_gdd}
use Rattle.gdd_pbd.specs.Conditions.{CanWeight}
use Rattle.gdd_pbd.specs.Room.{CanReplace, FitsIn, most_blocks, most_size}
use Rattle.gdd_pbd.specs.Filling.{place_by, rename}
use Rattle.gdd_pbd.specs.Weighting.{chosen, weight, weighted}

pub chosen_size : (s z : ℕ) (C D : List (List ℕ)) → size_of C ≤ most_size → size_of D ≤ most_size → size_of (chosen s C D z) ≤ most_size
chosen_size s z C D l m = elim (cases_eq z s) [
  | inl e ↦ omega (arith, ap size_of (chosen-first s z C D e), l)
  | inr ne ↦ omega (arith, ap size_of (chosen-second s z C D ne), m)
]

-- the blocks of a design can be replaced where there is an ingredient for each size
pub can_replace : (w s n : ℕ) (Size : ℕ → Type 0) (C D G : List (List ℕ)) → n * w ≤ POINTS_MAX → ((z : ℕ) → Size z → All (FitsIn (z * w)) (chosen s C D z)) → All (IsBlock n Size) G → All (CanReplace w s C D) G
can_replace w s n Size C D G points fits blocks = All-weaker (IsBlock n Size) (CanReplace w s C D) (λ b t. record {
  points = All-weaker (λ x. x < n) (λ x. x * w ≤ POINTS_MAX) (λ x l. groups_within x n w POINTS_MAX (omega arith) points) b t.below;
  fits = fits (length b) t.size;
}) G blocks

turned_fits : (w s z : ℕ) (C : List (List ℕ)) → z ≡ s → All (FitsIn (w * s)) C → All (FitsIn (z * w)) C
turned_fits w s z C e all = let same : w * s ≡ z * w = turn w s z e in subst (λ n. All (FitsIn n) C) same all
  where
    turn : (w s z : ℕ) → z ≡ s → w * s ≡ z * w
    turn w s z e = let swap : w * z ≡ z * w = omega arith in ap (λ t. w * t) (sym e) ∙ swap

pub chosen_fits : (w s z : ℕ) (C D : List (List ℕ)) → All (FitsIn (w * s)) C → All (FitsIn (w * (s + 1))) D → (z ≡ s) ⊎ (z ≡ s + 1) → All (FitsIn (z * w)) (chosen s C D z)
chosen_fits w s z C D first second (inl e) = subst (All (FitsIn (z * w))) (sym (chosen-first s z C D e)) (turned_fits w s z C e first)
chosen_fits w s z C D first second (inr e) = let ne : z ≢ s = omega arith in subst (All (FitsIn (z * w))) (sym (chosen-second s z C D ne)) (turned_fits w (s + 1) z D e second)

chosen_same : (s z : ℕ) (D : List (List ℕ)) → chosen s D D z ≡ D
chosen_same s z D = elim (cases_eq z s) [ inl e ↦ chosen-first s z D D e | inr ne ↦ chosen-second s z D D ne ]

pub weighted_same : (w s : ℕ) (G D : List (List ℕ)) → weighted w (chosen s D D) G ≡ weight w G D
unfolding weight weighted
weighted_same w s [] D = refl
weighted_same w s (b ∷ G) D = ap₂ (λ xs ys. rename (place_by w b) xs ++ ys) (chosen_same s (length b) D) (weighted_same w s G D)

module _ (k g u w s : ℕ) (G D : List (List ℕ)) (can : CanWeight k g u w s G D) where
  parts : g / w * w ≡ g
  parts = whole_times g w can.whole

  all_points : g / w * u * w ≤ POINTS_MAX
  all_points = omega (arith, can.points, regroup (g / w) u w, ap (λ n. n * u) parts)
    where
      regroup : (a u w : ℕ) → a * u * w ≡ a * w * u
      regroup a u w = omega arith

  master_points : g / w * u ≤ POINTS_MAX
  master_points = omega (arith, all_points, factor w (g / w * u) can.some, mul_comm (g / w * u) w)

  master_small : IsSmall (g / w * u) G
  master_small = small_gdd s (g / w) u G can.blocks master_points can.master

  ingredient_small : IsSmall (w * s) D
  ingredient_small = small_gdd k w s D can.two can.inner can.ingredient

  pub weight_points : (0 < w) × (w ≤ POINTS_MAX)
  weight_points = (can.some, omega (arith, can.inner, can.blocks, factor s w (omega (arith, can.blocks)), mul_comm w s))

  pub weight_replace : All (CanReplace w s D D) G
  weight_replace = can_replace w s (g / w * u) (λ z. z ≡ s) D D G all_points (λ z e. subst (All (FitsIn (z * w))) (sym (chosen_same s z D)) (turned_fits w s z D e ingredient_small.fits)) can.master.blocks

  pub weight_size : size_of D ≤ most_size
  weight_size = ingredient_small.size

  pub weight_count : length G ≤ most_blocks
  weight_count = master_small.count

  pub weight_blocks : (rows : List (List ℕ)) → rows ≡ canonical (weighted w (chosen s D D) G) → rows ≡ canonical (weight w G D)
  weight_blocks rows is = is ∙ ap canonical (weighted_same w s G D)

  pub weight_design : (rows : List (List ℕ)) → rows ≡ canonical (weighted w (chosen s D D) G) → IsGdd rows k g u
  weight_design rows is = subst (λ n. IsGdd rows k n u) parts (subst (λ B. IsGdd B k (g / w * w) u) (sym (weight_blocks rows is)) (weight_is_gdd w (g / w) u k s G D can.some can.master can.ingredient))
