-- The rules of transversal designs: a candidate has what its construction needs, and the construction gives the design. A new rule adds a
-- lemma, and a case to `td_can_build` and to `td_meets`.
use Rattle.std.proofs.Common.{◌≡◌, ℕ, ◌+◌, ◌-◌, ◌*◌, ◌≤◌, true, List, [], ◌∷◌, arith, subst, sym}
use Rattle.std.proofs.lemmas.Bool.Decides.{nat_tests}
use Rattle.counting.proofs.Booleans.{both}
use Rattle.counting.specs.Search.{◌<=◌}
use Rattle.design_base.specs.Blocks.{IsTd}
use Rattle.design_base.specs.Canonical.{canonical}
use Rattle.design_base.specs.Fields.{has_field}
use Rattle.design_base.specs.Limits.{in_bounds}
use Rattle.design_base.specs.declared.query.Query.TheVariants.{Td}
use Rattle.design_base.specs.declared.rule.Rule.{Rule}
use Rattle.design_base.specs.declared.rule.Rule.TheVariants.{TdOne, Cyclic, Field, Product, Parker, Wilson1, Wilson2}
use Rattle.transversal.specs.Constructions.{one_blocks, product_blocks, parker_blocks}
use Rattle.transversal.proofs.Designs.{one_design, cyclic_design, field_design, product_design, parker_design}
use Rattle.wilson.specs.Truncations.{wilson_one_blocks, wilson_two_blocks}
use Rattle.wilson.proofs.Designs.{wilson_one_design, wilson_two_design}
use Rattle.rule_terms.specs.TdTerms.{td_terms}
use Rattle.rule_terms.specs.RuleTree.{allows, premises_at}
use Rattle.rule_terms.proofs.Bounds.{td_bounds}
use Rattle.derivations.specs.AllMeet.{AllMeet}
use Rattle.derivations.specs.TdBlocks.{td_blocks, CanBuildTd}
use Rattle.derivations.proofs.Conditions.{allowed_at}
use Rattle.derivations.proofs.Taken.{taken}

module _ (k n : ℕ) (bounds : in_bounds (Td k n) ≡ true) where
  -- what is shown of a rule
  abbrev Can : Rule → Type 0
  Can r = (a b c d : ℕ) (I : List (List (List ℕ))) → allows (td_terms k n r) (a ∷ b ∷ c ∷ d ∷ []) ≡ true
      → AllMeet (premises_at (td_terms k n r) (a ∷ b ∷ c ∷ d ∷ [])) I → CanBuildTd k n r a b c d I

  one : Can TdOne
  unfolding td_terms allows premises_at CanBuildTd
  one a b c d I e meet =
      let in_range = td_bounds k n bounds in
      let points : n ≡ 1 = let t = (allowed_at (td_terms k n TdOne) (a ∷ b ∷ c ∷ d ∷ []) e).condition in grind (arith, nat_tests) in
      taken [] (CanBuildTd k n TdOne a b c d) I meet (record { two_groups = in_range.groups; groups = in_range.narrow }, sym points)

  cyclic : Can Cyclic
  unfolding td_terms allows premises_at CanBuildTd
  cyclic a b c d I e meet =
      let in_range = td_bounds k n bounds in
      let t = (allowed_at (td_terms k n Cyclic) (a ∷ b ∷ c ∷ d ∷ []) e).condition in
      taken [] (CanBuildTd k n Cyclic a b c d) I meet (record {
        two_groups = in_range.groups;
        columns = grind (arith, nat_tests);
        one_point = in_range.points;
        points = in_range.few;
      })

  field : Can Field
  unfolding td_terms allows premises_at CanBuildTd
  field a b c d I e meet =
      let in_range = td_bounds k n bounds in
      let t = both (has_field n) (k <= n + 1) (allowed_at (td_terms k n Field) (a ∷ b ∷ c ∷ d ∷ []) e).condition in
      taken [] (CanBuildTd k n Field a b c d) I meet (record {
        two_groups = in_range.groups;
        groups = in_range.narrow;
        columns = grind (arith, nat_tests);
        listed = t.0;
        points = in_range.few;
      })

  product : Can Product
  unfolding td_terms allows premises_at CanBuildTd
  product a b c d I e meet =
      let in_range = td_bounds k n bounds in
      let t = (allowed_at (td_terms k n Product) (a ∷ b ∷ c ∷ d ∷ []) e).condition in
      let points : a * b ≡ n = grind (arith, nat_tests) in
      let low : 2 ≤ a = grind (arith, nat_tests) in
      let order : a ≤ b = grind (arith, nat_tests) in
      taken (Td k a ∷ Td k b ∷ []) (CanBuildTd k n Product a b c d) I meet (λ A first B second. (
        record {
          two_groups = in_range.groups;
          groups = in_range.narrow;
          first_points = omega arith;
          second_points = omega arith;
          points = omega (arith, in_range.few);
          first = first;
          second = second;
        },
        points,
      ))

  parker : Can Parker
  unfolding td_terms allows premises_at CanBuildTd
  parker m b c d I e meet =
      let in_range = td_bounds k n bounds in
      let t = (allowed_at (td_terms k n Parker) (m ∷ b ∷ c ∷ d ∷ []) e).condition in
      let groups : 4 ≡ k = grind (arith, nat_tests) in
      let points : 3 * m + 1 ≡ n = grind (arith, nat_tests) in
      taken (Td 4 m ∷ []) (CanBuildTd k n Parker m b c d) I meet (λ A inner. (
        record { one_point = grind (arith, nat_tests); points = omega (arith, in_range.few); inner = inner },
        groups,
        points,
      ))

  wilson_one : Can Wilson1
  unfolding td_terms allows premises_at CanBuildTd
  wilson_one m t u d I e meet =
      let in_range = td_bounds k n bounds in
      let c = allowed_at (td_terms k n Wilson1) (m ∷ t ∷ u ∷ d ∷ []) e in
      let held = c.condition in
      let points : m * t + u ≡ n = grind (arith, nat_tests) in
      taken (Td (k + 1) t ∷ Td k m ∷ Td k (m + 1) ∷ Td k u ∷ []) (CanBuildTd k n Wilson1 m t u d) I meet (λ M master A small E large U rest. (
        record {
          two_groups = in_range.groups;
          groups = (td_bounds (k + 1) t (both (in_bounds (Td (k + 1) t)) _ c.bounded).0).narrow;
          one_symbol = grind (arith, nat_tests);
          some_kept = grind (arith, nat_tests);
          kept = grind (arith, nat_tests);
          points = omega (arith, in_range.few);
          master = master;
          small = small;
          large = large;
          rest = rest;
        },
        points,
      ))

  wilson_two : Can Wilson2
  unfolding td_terms allows premises_at CanBuildTd
  wilson_two m t u w I e meet =
      let in_range = td_bounds k n bounds in
      let c = allowed_at (td_terms k n Wilson2) (m ∷ t ∷ u ∷ w ∷ []) e in
      let held = c.condition in
      let points : m * t + u + w ≡ n = grind (arith, nat_tests) in
      taken (Td (k + 2) t ∷ Td k m ∷ Td k (m + 1) ∷ Td k (m + 2) ∷ Td k u ∷ Td k w ∷ []) (CanBuildTd k n Wilson2 m t u w) I meet
      (λ M master A small E large F larger U first W second. (
        record {
          two_groups = in_range.groups;
          groups = (td_bounds (k + 2) t (both (in_bounds (Td (k + 2) t)) _ c.bounded).0).narrow;
          few_groups = grind (arith, nat_tests);
          one_symbol = grind (arith, nat_tests);
          first_some_kept = grind (arith, nat_tests);
          first_kept = grind (arith, nat_tests);
          second_some_kept = grind (arith, nat_tests);
          second_kept = grind (arith, nat_tests);
          points = omega (arith, in_range.few);
          master = master;
          small = small;
          large = large;
          larger = larger;
          first_rest = first;
          second_rest = second;
        },
        points,
      ))

  pub td_can_build : (r : Rule) → Can r
  unfolding td_terms allows
  td_can_build TdOne = one
  td_can_build Cyclic = cyclic
  td_can_build Field = field
  td_can_build Product = product
  td_can_build Parker = parker
  td_can_build Wilson1 = wilson_one
  td_can_build Wilson2 = wilson_two
  td_can_build r = λ a b c d I e meet. cc

pub td_meets : (k n : ℕ) (r : Rule) (a b c d : ℕ) (I : List (List (List ℕ))) → CanBuildTd k n r a b c d I → IsTd (canonical (td_blocks k n r a b c d I)) k n
unfolding td_blocks CanBuildTd
td_meets k n TdOne a b c d [] can = subst (IsTd (canonical (one_blocks k)) k) can.1 (one_design k can.0)
td_meets k n Cyclic a b c d [] can = cyclic_design k n can
td_meets k n Field a b c d [] can = field_design k n can
td_meets k n Product a b c d (A ∷ B ∷ []) can = subst (IsTd (canonical (product_blocks k a b A B)) k) can.1 (product_design k a b A B can.0)
td_meets k n Parker m b c d (A ∷ []) can =
    let B : List (List ℕ) = canonical (parker_blocks m A) in
    subst (λ x. IsTd B x n) can.1 (subst (IsTd B 4) can.2 (parker_design m A can.0))
td_meets k n Wilson1 m t u d (M ∷ A ∷ E ∷ U ∷ []) can = subst (IsTd (canonical (wilson_one_blocks k m t u M A E U)) k) can.1 (wilson_one_design k m t u M A E U can.0)
td_meets k n Wilson2 m t u w (M ∷ A ∷ E ∷ F ∷ U ∷ W ∷ []) can = subst (IsTd (canonical (wilson_two_blocks k m t u w M A E F U W)) k) can.1 (wilson_two_design k m t u w M A E F U W can.0)
td_meets k n r a b c d I can = absurd can
