-- The rules of difference families: a candidate has what its construction needs, and the construction gives the family.
use Rattle.std.proofs.Common.{◌≡◌, ℕ, ◌∙◌, true, List, [], ◌∷◌, length, refl, sym}
use Rattle.counting.proofs.Booleans.{both}
use Rattle.design_base.specs.Canonical.{canonical}
use Rattle.design_base.specs.Limits.{in_bounds, within}
use Rattle.design_base.specs.Meets.{Meets}
use Rattle.design_base.specs.Steps.{step}
use Rattle.design_base.specs.declared.query.Group.{Group}
use Rattle.design_base.specs.declared.query.Group.TheVariants.{Cyclic, Field}
use Rattle.design_base.specs.declared.query.Query.TheVariants.{Df}
use Rattle.design_base.specs.declared.rule.Rule.{Rule}
use Rattle.design_base.specs.declared.rule.Rule.TheVariants.{Table, Powers, Cosets, Cosets0, Halfcosets}
use Rattle.difference_sets.proofs.Buildable.{family_design}
use Rattle.difference_sets.proofs.StepsMeet.{tested_law}
use Rattle.difference_sets.specs.FamilySteps.{family_applies, is_family_step, is_stated, is_tested_step}
use Rattle.difference_sets.specs.Listed.{families}
use Rattle.rule_terms.specs.DfTerms.{df_terms}
use Rattle.rule_terms.specs.RuleTree.{allows, premises_at}
use Rattle.derivations.specs.AllMeet.{AllMeet}
use Rattle.derivations.specs.DfBlocks.{df_blocks, CanBuildDf}
use Rattle.derivations.proofs.Taken.{taken}

-- a rule without parameters looks at none
abbrev IsFree : Rule → Type 0
IsFree r = (group : Group) (v k l a b : ℕ) → family_applies group v k l r 0 0 ≡ family_applies group v k l r a b

cosets_free : IsFree Cosets
unfolding family_applies is_stated
cosets_free Cyclic v k l a b = refl
cosets_free Field v k l a b = refl

cosets0_free : IsFree Cosets0
unfolding family_applies is_stated
cosets0_free Cyclic v k l a b = refl
cosets0_free Field v k l a b = refl

halfcosets_free : IsFree Halfcosets
unfolding family_applies is_stated
halfcosets_free Cyclic v k l a b = refl
halfcosets_free Field v k l a b = refl

-- and that of listed families looks at one
table_free : (group : Group) (v k l n b : ℕ) → family_applies group v k l Table n 0 ≡ family_applies group v k l Table n b
unfolding family_applies is_stated
table_free Cyclic v k l n b = refl
table_free Field v k l n b = refl

module _ (group : Group) (v k l : ℕ) (bounds : in_bounds (Df group v k l) ≡ true) where
  -- what is shown of a rule
  abbrev Can : Rule → Type 0
  Can r = (a b c d : ℕ) (I : List (List (List ℕ))) → allows (df_terms group v k l r) (a ∷ b ∷ c ∷ d ∷ []) ≡ true
      → AllMeet (premises_at (df_terms group v k l r) (a ∷ b ∷ c ∷ d ∷ [])) I → CanBuildDf group v k l r a b c d I

  -- the list of a step passes its check exactly where the step applies
  applies : (r : Rule) (a b : ℕ) → is_tested_step (Df group v k l) (step r a b 0 0) ≡ true → family_applies group v k l r a b ≡ true
  unfolding is_family_step
  applies r a b e = sym (tested_law (Df group v k l) (step r a b 0 0) bounds) ∙ e

  applied : (r : Rule) (a b c d : ℕ) (I : List (List (List ℕ))) → AllMeet [] I → family_applies group v k l r a b ≡ true → CanBuildDf group v k l r a b c d I
  unfolding CanBuildDf is_family_step
  applied r a b c d I meet e = taken [] (CanBuildDf group v k l r a b c d) I meet (record { bounds = bounds; applies = e })

  table : Can Table
  unfolding df_terms allows premises_at
  table n b c d I e meet =
      let tested = (both (is_tested_step (Df group v k l) (step Table n 0 0 0)) _ (both (within 1 (length families) n) _ e).1).0 in
      applied Table n b c d I meet (sym (table_free group v k l n b) ∙ applies Table n 0 tested)

  powers : Can Powers
  unfolding df_terms allows premises_at
  powers n z c d I e meet =
      let tested = (both (is_tested_step (Df group v k l) (step Powers n z 0 0)) _ (both (within 0 1 z) _ (both (within 2 8 n) _ e).1).1).0 in
      applied Powers n z c d I meet (applies Powers n z tested)

  without_parameters : (r : Rule) → IsFree r → (a b c d : ℕ) (I : List (List (List ℕ))) → is_tested_step (Df group v k l) (step r 0 0 0 0) ≡ true → AllMeet [] I
      → CanBuildDf group v k l r a b c d I
  without_parameters r free a b c d I e meet = applied r a b c d I meet (sym (free group v k l a b) ∙ applies r 0 0 e)

  cosets : Can Cosets
  unfolding df_terms allows premises_at
  cosets a b c d I e meet = without_parameters Cosets cosets_free a b c d I (both (is_tested_step (Df group v k l) (step Cosets 0 0 0 0)) _ e).0 meet

  cosets0 : Can Cosets0
  unfolding df_terms allows premises_at
  cosets0 a b c d I e meet = without_parameters Cosets0 cosets0_free a b c d I (both (is_tested_step (Df group v k l) (step Cosets0 0 0 0 0)) _ e).0 meet

  halfcosets : Can Halfcosets
  unfolding df_terms allows premises_at
  halfcosets a b c d I e meet = without_parameters Halfcosets halfcosets_free a b c d I (both (is_tested_step (Df group v k l) (step Halfcosets 0 0 0 0)) _ e).0 meet

  pub df_can_build : (r : Rule) → Can r
  unfolding df_terms allows
  df_can_build Table = table
  df_can_build Powers = powers
  df_can_build Cosets = cosets
  df_can_build Cosets0 = cosets0
  df_can_build Halfcosets = halfcosets
  df_can_build r = λ a b c d I e meet. cc

pub df_meets : (group : Group) (v k l : ℕ) (r : Rule) (a b c d : ℕ) (I : List (List (List ℕ))) → CanBuildDf group v k l r a b c d I
    → Meets (Df group v k l) (canonical (df_blocks group v k l r a b c d I))
unfolding df_blocks CanBuildDf
df_meets group v k l r a b c d [] can = family_design (Df group v k l) (step r a b c d) can
df_meets group v k l r a b c d (A ∷ I) can = absurd can
