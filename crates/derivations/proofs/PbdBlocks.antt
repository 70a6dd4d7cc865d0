-- The rules of pairwise balanced designs: a candidate has what its construction needs, and the construction gives the design. A new rule adds
-- a lemma, and a case to `pbd_can_build` and to `pbd_meets`.
use Rattle.std.proofs.Common.{◌≡◌, ℕ, ◌+◌, ◌-◌, ◌*◌, ◌≤◌, ◌⊎◌, inl, inr, Bool, true, false, if◌then◌else◌, List, [], ◌∷◌, None, Some, arith, refl, subst, sym}
use Rattle.std.proofs.Math.Nat.{mul_comm}
use Rattle.counting.proofs.Booleans.{both, cases_eq, leb-true}
use Rattle.std.proofs.lemmas.Bool.Decides.{nat_tests}
use Rattle.counting.specs.Search.{◌<=◌}
use Rattle.design_base.specs.Blocks.{IsPbd}
use Rattle.design_base.specs.Canonical.{canonical}
use Rattle.design_base.specs.Limits.{in_bounds}
use Rattle.design_base.specs.declared.query.Query.TheVariants.{Bibd, Pbd, Td}
use Rattle.design_base.specs.declared.rule.Rule.{Rule}
use Rattle.design_base.specs.declared.rule.Rule.TheVariants.{PbdOne, Bibds, Bibdt, PbdDelete, Truncate, Tdfill, Tdfill1}
use Rattle.gdd_pbd.specs.Filling.{fill, fill_with_point}
use Rattle.gdd_pbd.specs.Truncating.{truncated}
use Rattle.gdd_pbd.proofs.BasicDesigns.{bibd_is_pbd, larger_bibd_is_pbd, whole_is_pbd}
use Rattle.gdd_pbd.proofs.Dropped.{drop_point_is_pbd}
use Rattle.gdd_pbd.proofs.Filled.{td_fill_is_pbd}
use Rattle.gdd_pbd.proofs.FilledWithPoint.{td_fill_with_point_is_pbd}
use Rattle.gdd_pbd.proofs.Truncated.{truncate_is_pbd}
use Rattle.rule_terms.specs.PbdTerms.{pbd_terms}
use Rattle.rule_terms.specs.RuleTree.{allows, premises_at}
use Rattle.rule_terms.proofs.Bounds.{bibd_bounds, pbd_bounds}
use Rattle.derivations.specs.AllMeet.{AllMeet}
use Rattle.derivations.specs.PbdBlocks.{pbd_blocks, CanBuildPbd}
use Rattle.derivations.proofs.Conditions.{allowed_at}
use Rattle.derivations.proofs.Ingredients.{ingredient_design}
use Rattle.derivations.proofs.Taken.{taken}

-- between a number and the next
one_of_two : (s c : ℕ) → s ≤ c → c ≤ s + 1 → (c ≡ s) ⊎ (c ≡ s + 1)
one_of_two s c low high = elim (cases_eq c s) [
  | inl e ↦ inl e
  | inr ne ↦ inr (omega arith)
]

module _ (v s : ℕ) (bounds : in_bounds (Pbd v s) ≡ true) where
  -- what is shown of a rule
  abbrev Can : Rule → Type 0
  Can r = (a b c d : ℕ) (I : List (List (List ℕ))) → allows (pbd_terms v s r) (a ∷ b ∷ c ∷ d ∷ []) ≡ true
      → AllMeet (premises_at (pbd_terms v s r) (a ∷ b ∷ c ∷ d ∷ [])) I → CanBuildPbd v s r a b c d I

  one : Can PbdOne
  unfolding pbd_terms allows premises_at CanBuildPbd
  one a b c d I e meet =
      let in_range = pbd_bounds v s bounds in
      let t = (allowed_at (pbd_terms v s PbdOne) (a ∷ b ∷ c ∷ d ∷ []) e).condition in
      let size : (v ≡ s) ⊎ (v ≡ s + 1) = one_of_two s v (grind (arith, nat_tests)) (grind (arith, nat_tests)) in
      taken [] (CanBuildPbd v s PbdOne a b c d) I meet (record { points = in_range.few; covers = omega arith }, size)

  bibds : Can Bibds
  unfolding pbd_terms allows premises_at CanBuildPbd
  bibds a b c d I e meet = taken (Bibd v s 1 ∷ []) (CanBuildPbd v s Bibds a b c d) I meet (λ A design. design)

  bibdt : Can Bibdt
  unfolding pbd_terms allows premises_at CanBuildPbd
  bibdt a b c d I e meet = taken (Bibd v (s + 1) 1 ∷ []) (CanBuildPbd v s Bibdt a b c d) I meet (λ A design. design)

  delete : Can PbdDelete
  unfolding pbd_terms allows premises_at CanBuildPbd
  delete a b c d I e meet =
      let in_range = pbd_bounds v s bounds in
      let larger = bibd_bounds (v + 1) (s + 1) 1 (both (in_bounds (Bibd (v + 1) (s + 1) 1)) _ e).0 in
      taken (Bibd (v + 1) (s + 1) 1 ∷ []) (CanBuildPbd v s PbdDelete a b c d) I meet (λ A design. record {
        blocks = omega (arith, in_range.least);
        some = omega arith;
        points = larger.points;
        design = design;
      })

  -- what is left of the last group needs a design where it is two points or more
  truncated_to : (t u c d : ℕ) (I : List (List (List ℕ))) → 2 ≤ t → u ≤ t → s * t + u ≡ v → (more : Bool) → more ≡ (2 <= u)
      → AllMeet (Td (s + 1) t ∷ Pbd t s ∷ (if more then Pbd u s ∷ [] else [])) I → CanBuildPbd v s Truncate t u c d I
  unfolding CanBuildPbd
  truncated_to t u c d I some fits points true is meet =
      let in_range = pbd_bounds v s bounds in
      taken (Td (s + 1) t ∷ Pbd t s ∷ Pbd u s ∷ []) (CanBuildPbd v s Truncate t u c d) I meet (λ T td P group Q rest. (
        record {
          two = in_range.least;
          some = some;
          fits = fits;
          points = omega (arith, in_range.few);
          td = td;
          group = group;
          last = (leb-true 2 u (sym is), rest);
        },
        points,
      ))
  truncated_to t u c d I some fits points false is meet =
      let in_range = pbd_bounds v s bounds in
      taken (Td (s + 1) t ∷ Pbd t s ∷ []) (CanBuildPbd v s Truncate t u c d) I meet (λ T td P group. (
        record {
          two = in_range.least;
          some = some;
          fits = fits;
          points = omega (arith, in_range.few);
          td = td;
          group = group;
          last = grind (arith, nat_tests);
        },
        points,
      ))

  truncate : Can Truncate
  unfolding pbd_terms allows premises_at
  truncate t u c d I e meet =
      let held = (allowed_at (pbd_terms v s Truncate) (t ∷ u ∷ c ∷ d ∷ []) e).condition in
      truncated_to t u c d I (grind (arith, nat_tests)) (grind (arith, nat_tests)) (grind (arith, nat_tests)) (2 <= u) refl meet

  tdfill : Can Tdfill
  unfolding pbd_terms allows premises_at CanBuildPbd
  tdfill t b c d I e meet =
      let in_range = pbd_bounds v s bounds in
      let held = (allowed_at (pbd_terms v s Tdfill) (t ∷ b ∷ c ∷ d ∷ []) e).condition in
      let points : s * t ≡ v = grind (arith, nat_tests) in
      let low : 2 ≤ t = grind (arith, nat_tests) in
      taken (Td s t ∷ Pbd t s ∷ []) (CanBuildPbd v s Tdfill t b c d) I meet (λ T td P group. (
        record { two = in_range.least; some = omega arith; points = omega (arith, in_range.few); td = td; group = group },
        points,
      ))

  tdfill_with_point : Can Tdfill1
  unfolding pbd_terms allows premises_at CanBuildPbd
  tdfill_with_point t c p d I e meet =
      let in_range = pbd_bounds v s bounds in
      let held = (allowed_at (pbd_terms v s Tdfill1) (t ∷ c ∷ p ∷ d ∷ []) e).condition in
      let points : c * t + 1 ≡ v = grind (arith, nat_tests) in
      let low : 2 ≤ t = grind (arith, nat_tests) in
      let least : s ≤ c = grind (arith, nat_tests) in
      let most : c ≤ s + 1 = grind (arith, nat_tests) in
      taken (Td c t ∷ Pbd (t + 1) s ∷ []) (CanBuildPbd v s Tdfill1 t c p d) I meet (λ T td P group. (
        record {
          two = in_range.least;
          some = omega arith;
          groups = one_of_two s c least most;
          points = omega (arith, in_range.few);
          td = td;
          group = group;
        },
        points,
      ))

  pub pbd_can_build : (r : Rule) → Can r
  unfolding pbd_terms allows
  pbd_can_build PbdOne = one
  pbd_can_build Bibds = bibds
  pbd_can_build Bibdt = bibdt
  pbd_can_build PbdDelete = delete
  pbd_can_build Truncate = truncate
  pbd_can_build Tdfill = tdfill
  pbd_can_build Tdfill1 = tdfill_with_point
  pbd_can_build r = λ a b c d I e meet. cc

pub pbd_meets : (v s : ℕ) (r : Rule) (a b c d : ℕ) (I : List (List (List ℕ))) → CanBuildPbd v s r a b c d I → IsPbd (canonical (pbd_blocks v s r a b c d I)) v s
unfolding pbd_blocks CanBuildPbd
pbd_meets v s PbdOne a b c d [] can = whole_is_pbd v s can.1
pbd_meets v s Bibds a b c d (A ∷ []) can = bibd_is_pbd (canonical A) v s (ingredient_design A v (λ z. z ≡ s) (λ x y. 1) can)
pbd_meets v s Bibdt a b c d (A ∷ []) can = larger_bibd_is_pbd (canonical A) v s (ingredient_design A v (λ z. z ≡ s + 1) (λ x y. 1) can)
pbd_meets v s PbdDelete a b c d (A ∷ []) can = drop_point_is_pbd v s A can.design
pbd_meets v s Truncate t u c d (T ∷ P ∷ []) can =
    subst (λ n. IsPbd (canonical (truncated s t u T P None)) n s) can.1
    (truncate_is_pbd s t u T P None (omega (arith, can.0.some)) (omega (arith, can.0.two)) can.0.fits can.0.td can.0.group can.0.last)
pbd_meets v s Truncate t u c d (T ∷ P ∷ Q ∷ []) can =
    subst (λ n. IsPbd (canonical (truncated s t u T P (Some Q))) n s) can.1
    (truncate_is_pbd s t u T P (Some Q) (omega (arith, can.0.some)) (omega (arith, can.0.two)) can.0.fits can.0.td can.0.group can.0.last)
pbd_meets v s Tdfill t b c d (T ∷ P ∷ []) can = subst (λ n. IsPbd (canonical (fill t s T P)) n s) can.1 (td_fill_is_pbd s t T P can.0.some can.0.td can.0.group)
pbd_meets v s Tdfill1 t c p d (T ∷ P ∷ []) can =
    let points : t * c + 1 ≡ v = omega (arith, can.1, mul_comm t c) in
    subst (λ n. IsPbd (canonical (fill_with_point t c T P)) n s) points (td_fill_with_point_is_pbd s t c T P can.0.some can.0.groups can.0.td can.0.group)
pbd_meets v s r a b c d I can = absurd can
