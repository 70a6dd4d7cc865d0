-- The rules of group divisible designs: a candidate has what its construction needs, and the construction gives the design. A new rule adds
-- a lemma, and a case to `gdd_can_build` and to `gdd_meets`.
use Rattle.std.proofs.Common.{◌≡◌, ℕ, ◌+◌, ◌-◌, ◌*◌, ◌/◌, ◌%◌, ◌≤◌, ◌&&◌, true, List, [], ◌∷◌, ◌∙◌, ap, arith, subst, sym}
use Rattle.std.proofs.Math.Nat.{div-add-mod', mul-mod_right}
use Rattle.counting.proofs.Booleans.{both, eqb-true}
use Rattle.std.proofs.lemmas.Bool.Decides.{nat_tests}
use Rattle.counting.specs.Division.{divides}
use Rattle.counting.specs.Search.{◌<=◌}
use Rattle.design_base.specs.Blocks.{IsBibd, IsGdd, across}
use Rattle.design_base.specs.Canonical.{canonical}
use Rattle.design_base.specs.Limits.{in_bounds}
use Rattle.design_base.specs.declared.query.Query.TheVariants.{Bibd, Gdd, Td as TdQuery}
use Rattle.design_base.specs.declared.rule.Rule.{Rule}
use Rattle.design_base.specs.declared.rule.Rule.TheVariants.{Td, Points, GddDelete, Weight, Split}
use Rattle.gdd_pbd.specs.Deleting.{delete_last}
use Rattle.gdd_pbd.specs.Filling.{fill}
use Rattle.gdd_pbd.specs.Weighting.{weight}
use Rattle.gdd_pbd.proofs.BasicDesigns.{bibd_is_gdd}
use Rattle.gdd_pbd.proofs.Deleted.{delete_is_gdd}
use Rattle.gdd_pbd.proofs.Filled.{split_is_gdd}
use Rattle.gdd_pbd.proofs.Weighted.{weight_is_gdd}
use Rattle.rule_terms.specs.GddTerms.{gdd_terms}
use Rattle.rule_terms.specs.RuleTree.{allows, premises_at}
use Rattle.rule_terms.proofs.Bounds.{bibd_bounds, gdd_bounds}
use Rattle.derivations.specs.AllMeet.{AllMeet}
use Rattle.derivations.specs.GddBlocks.{gdd_blocks, CanBuildGdd}
use Rattle.derivations.proofs.Conditions.{allowed_at}
use Rattle.derivations.proofs.Ingredients.{ingredient_design}
use Rattle.derivations.proofs.Taken.{taken}

module _ (k g u : ℕ) (bounds : in_bounds (Gdd k g u) ≡ true) where
  -- what is shown of a rule
  abbrev Can : Rule → Type 0
  Can r = (a b c d : ℕ) (I : List (List (List ℕ))) → allows (gdd_terms k g u r) (a ∷ b ∷ c ∷ d ∷ []) ≡ true
      → AllMeet (premises_at (gdd_terms k g u r) (a ∷ b ∷ c ∷ d ∷ [])) I → CanBuildGdd k g u r a b c d I

  td : Can Td
  unfolding gdd_terms allows premises_at CanBuildGdd
  td a b c d I e meet =
      let groups : u ≡ k = eqb-true u k (allowed_at (gdd_terms k g u Td) (a ∷ b ∷ c ∷ d ∷ []) e).condition in
      taken (TdQuery k g ∷ []) (CanBuildGdd k g u Td a b c d) I meet (λ A design. (design, sym groups))

  points : Can Points
  unfolding gdd_terms allows premises_at CanBuildGdd
  points a b c d I e meet =
      let one : g ≡ 1 = eqb-true g 1 (allowed_at (gdd_terms k g u Points) (a ∷ b ∷ c ∷ d ∷ []) e).condition in
      taken (Bibd u k 1 ∷ []) (CanBuildGdd k g u Points a b c d) I meet (λ A design. (design, sym one))

  delete : Can GddDelete
  unfolding gdd_terms allows premises_at CanBuildGdd
  delete a b c d I e meet =
      let in_range = gdd_bounds k g u bounds in
      let t = allowed_at (gdd_terms k g u GddDelete) (a ∷ b ∷ c ∷ d ∷ []) e in
      let group : g ≡ k - 1 = eqb-true g (k - 1) t.condition in
      let larger = bibd_bounds ((k - 1) * u + 1) k 1 (both (in_bounds (Bibd ((k - 1) * u + 1) k 1)) _ t.bounded).0 in
      taken (Bibd ((k - 1) * u + 1) k 1 ∷ []) (CanBuildGdd k g u GddDelete a b c d) I meet (λ A design. (
        record {
          two = in_range.least;
          some = omega (arith, in_range.least, larger.block);
          points = larger.points;
          whole = whole_groups (k - 1) u;
          design = design;
        },
        sym group,
      ))
    where
      whole_groups : (w n : ℕ) → (w * n + 1 - 1) % w ≡ 0
      whole_groups w n = ap (λ x. x % w) (let rest : w * n + 1 - 1 ≡ w * n = omega arith in rest) ∙ mul-mod_right w n

  weights : Can Weight
  unfolding gdd_terms allows premises_at CanBuildGdd
  weights w s c d I e meet =
      let in_range = gdd_bounds k g u bounds in
      let t = allowed_at (gdd_terms k g u Weight) (w ∷ s ∷ c ∷ d ∷ []) e in
      let held = (both (2 <= w && divides w g && k <= s && s <= u) _ t.condition).0 in
      let low : 2 ≤ w = grind (arith, nat_tests) in
      let parts : g % w ≡ 0 = grind (arith, nat_tests) in
      let blocks : k ≤ s = grind (arith, nat_tests) in
      let inner = gdd_bounds k w s (both (in_bounds (Gdd k w s)) _ (both (in_bounds (Gdd s (g / w) u)) _ t.bounded).1).0 in
      taken (Gdd s (g / w) u ∷ Gdd k w s ∷ []) (CanBuildGdd k g u Weight w s c d) I meet (λ G master D ingredient. record {
        two = in_range.least;
        blocks = omega (arith, in_range.least);
        some = omega arith;
        whole = parts;
        points = in_range.points;
        inner = inner.points;
        master = master;
        ingredient = ingredient;
      })

  splits : Can Split
  unfolding gdd_terms allows premises_at CanBuildGdd
  splits c b p d I e meet =
      let in_range = gdd_bounds k g u bounds in
      let t = (allowed_at (gdd_terms k g u Split) (c ∷ b ∷ p ∷ d ∷ []) e).condition in
      let low : 2 ≤ c = grind (arith, nat_tests) in
      let parts : u % c ≡ 0 = grind (arith, nat_tests) in
      taken (Gdd k (g * c) (u / c) ∷ Gdd k g c ∷ []) (CanBuildGdd k g u Split c b p d) I meet (λ G master D filler. record {
        two = in_range.least;
        some = in_range.some;
        parts = omega arith;
        groups = omega (arith, in_range.groups);
        whole = parts;
        points = in_range.points;
        master = master;
        filler = filler;
      })

  pub gdd_can_build : (r : Rule) → Can r
  unfolding gdd_terms allows
  gdd_can_build Td = td
  gdd_can_build Points = points
  gdd_can_build GddDelete = delete
  gdd_can_build Weight = weights
  gdd_can_build Split = splits
  gdd_can_build r = λ a b c d I e meet. cc

pub gdd_meets : (k g u : ℕ) (r : Rule) (a b c d : ℕ) (I : List (List (List ℕ))) → CanBuildGdd k g u r a b c d I → IsGdd (canonical (gdd_blocks k g u r a b c d I)) k g u
unfolding gdd_blocks CanBuildGdd
gdd_meets k g u Td a b c d (A ∷ []) can = subst (IsGdd (canonical A) k g) can.1 (ingredient_design A (g * k) (λ s. s ≡ k) (across g) can.0)
gdd_meets k g u Points a b c d (A ∷ []) can =
    subst (λ n. IsGdd (canonical A) k n u) can.1 (bibd_is_gdd (canonical A) u k (ingredient_design A u (λ s. s ≡ k) (λ x y. 1) can.0))
gdd_meets k g u GddDelete a b c d (A ∷ []) can =
    let size : k ≡ k - 1 + 1 = omega (arith, can.0.two) in
    let B : List (List ℕ) = canonical (delete_last (k - 1) u A) in
    subst (λ n. IsGdd B k n u) can.1
    (subst (λ n. IsGdd B n (k - 1) u) (sym size) (delete_is_gdd (k - 1) u A (omega (arith, can.0.two)) (subst (λ n. IsBibd A ((k - 1) * u + 1) n 1) size can.0.design)))
gdd_meets k g u Weight w s c d (G ∷ D ∷ []) can =
    let parts : g / w * w ≡ g = omega (arith, div-add-mod' g w, can.whole) in
    subst (λ n. IsGdd (canonical (weight w G D)) k n u) parts (weight_is_gdd w (g / w) u k s G D can.some can.master can.ingredient)
gdd_meets k g u Split c b p d (G ∷ D ∷ []) can =
    let parts : c * (u / c) ≡ u = omega (arith, div-add-mod' u c, can.whole) in
    subst (IsGdd (canonical (fill (g * c) (u / c) G D)) k g) parts (split_is_gdd g c (u / c) k G D can.some can.parts can.master can.filler)
gdd_meets k g u r a b c d I can = absurd can
