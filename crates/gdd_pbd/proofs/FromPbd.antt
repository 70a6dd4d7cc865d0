-- A BIBD from a PBD and smaller BIBDs.
use Rattle.std.proofs.Common.{List, arith, inl, inr, refl, subst, sym, ℕ, ◌*◌, ◌+◌, ◌<◌, ◌==◌, ◌∙◌, ◌≡◌, ◌≢◌, ◌⊎◌, cond}
use Rattle.std.specs.Prelude.{All}
use Rattle.counting.proofs.Booleans.{eq-eqb, ne_eqb}
use Rattle.design_base.proofs.Canonical.{IsLoose, IsPointSet, design_from_loose, loose_from_design}
use Rattle.design_base.proofs.Places.{across-apart, across-inside, by_places}
use Rattle.design_base.specs.Blocks.{IsBibd, IsGdd, IsPbd, across, cover}
use Rattle.design_base.specs.Canonical.{canonical}
use Rattle.gdd_pbd.proofs.Deleted.{delete_is_gdd}
use Rattle.gdd_pbd.proofs.FilledWithPoint.{fill_with_point_is_loose}
use Rattle.gdd_pbd.proofs.BasicDesigns.{whole_loose}
use Rattle.gdd_pbd.proofs.Weighted.{weighted_apart, weighted_inside, weighted_sets}
use Rattle.gdd_pbd.specs.Deleting.{delete_last}
use Rattle.gdd_pbd.specs.FromPbd.{from_pbd}
use Rattle.gdd_pbd.specs.Basic.{whole_blocks}
use Rattle.gdd_pbd.specs.Weighting.{chosen, weighted}

-- a PBD becomes a GDD, where each point becomes a group of w points
module _ (w n k s : ℕ) (P C D : List (List ℕ)) (pos : 0 < w) (pbd : IsLoose P n (λ z. (z ≡ s) ⊎ (z ≡ s + 1)) (λ x y. 1)) (first : IsGdd C k w s) (second : IsGdd D k w (s + 1)) where
  gdds : (z : ℕ) → (z ≡ s) ⊎ (z ≡ s + 1) → IsLoose (chosen s C D z) (w * z) (λ s. s ≡ k) (across w)
  unfolding chosen
  gdds z (inl e) = subst (λ z. IsLoose (cond (z == s) C D) (w * z) (λ s. s ≡ k) (across w)) (sym e) (subst (λ t. IsLoose (cond t C D) (w * s) (λ s. s ≡ k) (across w)) (sym (eq-eqb s s refl)) (loose_from_design (w * s) (λ s. s ≡ k) C (across w) first))
  gdds z (inr e) = let ne : s + 1 ≢ s = omega arith in
      subst (λ z. IsLoose (cond (z == s) C D) (w * z) (λ s. s ≡ k) (across w)) (sym e) (subst (λ t. IsLoose (cond t C D) (w * (s + 1)) (λ s. s ≡ k) (across w)) (sym (ne_eqb (s + 1) s ne)) (loose_from_design (w * (s + 1)) (λ s. s ≡ k) D (across w) second))

  area : n * w ≡ w * n
  area = omega arith

  pub weighted_is_loose : IsLoose (weighted w (chosen s C D) P) (w * n) (λ z. z ≡ k) (across w)
  weighted_is_loose = record {
    blocks = subst (λ v. All (IsPointSet v (λ z. z ≡ k)) (weighted w (chosen s C D) P)) area (weighted_sets w n (λ z. (z ≡ s) ⊎ (z ≡ s + 1)) (λ z. z ≡ k) (chosen s C D) P pos pbd.blocks gdds);
    pairs = λ p q l m. by_places (λ p q. cover (weighted w (chosen s C D) P) p q ≡ across w p q) w n pos
        (λ x y i j lt ly li lj. weighted_apart w n (λ z. (z ≡ s) ⊎ (z ≡ s + 1)) (λ z. z ≡ k) (chosen s C D) P pos pbd.blocks gdds x y i j (omega arith) li lj ∙ pbd.pairs x y lt ly ∙ sym (across-apart w x i y j li lj (omega arith)))
        (λ x i j lx lt lj. weighted_inside w n (λ z. (z ≡ s) ⊎ (z ≡ s + 1)) (λ z. z ≡ k) (chosen s C D) P pos pbd.blocks gdds x i j lt lj ∙ sym (across-inside w x i j (omega arith) lj))
        p q l (omega arith);
  }

-- rule pbd, with w = k - 1: the groups of that GDD with one point more are blocks
pub from_pbd_is_bibd : (w n s : ℕ) (P C D : List (List ℕ)) → 0 < w → IsPbd P n s → IsBibd C (w * s + 1) (w + 1) 1 → IsBibd D (w * (s + 1) + 1) (w + 1) 1 → IsBibd (canonical (from_pbd w n s P C D)) (w * n + 1) (w + 1) 1
unfolding from_pbd
from_pbd_is_bibd w n s P C D pos pbd first second = design_from_loose (w * n + 1) (λ s. s ≡ w + 1) _ (λ x y. 1)
    (fill_with_point_is_loose w n (λ s. s ≡ w + 1) (weighted w (chosen s (canonical (delete_last w s C)) (canonical (delete_last w (s + 1) D))) P) (whole_blocks (w + 1) 1) pos
    (weighted_is_loose w n (w + 1) s P (canonical (delete_last w s C)) (canonical (delete_last w (s + 1) D)) pos (loose_from_design n (λ z. (z ≡ s) ⊎ (z ≡ s + 1)) P (λ x y. 1) pbd) (delete_is_gdd w s C pos first) (delete_is_gdd w (s + 1) D pos second))
    (whole_loose (w + 1) 1))
