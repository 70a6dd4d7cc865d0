-- What the steps of difference families make, and what their constructions need. They have no premises.
use Rattle.std.specs.Prelude.{ℕ, List, [], ◌∷◌}
use Rattle.design_base.specs.declared.query.Group.{Group}
use Rattle.design_base.specs.declared.query.Query.TheVariants.{Df}
use Rattle.design_base.specs.declared.rule.Rule.{Rule}
use Rattle.design_base.specs.Steps.{step}
use Rattle.difference_sets.specs.Conditions.{CanBuildFamily}
use Rattle.difference_sets.specs.Families.{step_blocks}

-- the base blocks of k of v elements, in any order
unfoldable pub df_blocks : Group → ℕ → ℕ → ℕ → Rule → ℕ → ℕ → ℕ → ℕ → List (List (List ℕ)) → List (List ℕ)
df_blocks group v k l r a b c d [] = step_blocks (Df group v k l) (step r a b c d)
df_blocks group v k l r a b c d (A ∷ I) = []

-- the construction has what it needs
unfoldable pub CanBuildDf : Group → ℕ → ℕ → ℕ → Rule → ℕ → ℕ → ℕ → ℕ → List (List (List ℕ)) → Type 0
CanBuildDf group v k l r a b c d [] = CanBuildFamily (Df group v k l) (step r a b c d)
CanBuildDf group v k l r a b c d (A ∷ I) = ⊥
