-- What the steps of group divisible designs make: for each rule the block list, from those of the premises, and what its construction
-- needs. The rules stand in the order of the table.
use Rattle.std.specs.Prelude.{ℕ, ◌≡◌, ◌+◌, ◌-◌, ◌*◌, ◌/◌, List, [], ◌∷◌}
use Rattle.design_base.specs.Blocks.{IsBibd, IsTd}
use Rattle.design_base.specs.declared.rule.Rule.{Rule}
use Rattle.design_base.specs.declared.rule.Rule.TheVariants.{Td, Points, GddDelete, Weight, Split}
use Rattle.gdd_pbd.specs.Conditions.{CanDeletePoint, CanSplit, CanWeight}
use Rattle.gdd_pbd.specs.Deleting.{delete_last}
use Rattle.gdd_pbd.specs.Filling.{fill}
use Rattle.gdd_pbd.specs.Weighting.{weight}

-- the blocks of k points over u groups of g points, in any order
unfoldable pub gdd_blocks : ℕ → ℕ → ℕ → Rule → ℕ → ℕ → ℕ → ℕ → List (List (List ℕ)) → List (List ℕ)
gdd_blocks k g u Td a b c d (A ∷ []) = A
gdd_blocks k g u Points a b c d (A ∷ []) = A
gdd_blocks k g u GddDelete a b c d (A ∷ []) = delete_last (k - 1) u A
gdd_blocks k g u Weight w s c d (G ∷ D ∷ []) = weight w G D
gdd_blocks k g u Split c b p d (G ∷ D ∷ []) = fill (g * c) (u / c) G D
gdd_blocks k g u r a b c d I = []

-- the construction has what it needs, and gives blocks of k points over u groups of g points
unfoldable pub CanBuildGdd : ℕ → ℕ → ℕ → Rule → ℕ → ℕ → ℕ → ℕ → List (List (List ℕ)) → Type 0
CanBuildGdd k g u Td a b c d (A ∷ []) = IsTd A k g × (k ≡ u)
CanBuildGdd k g u Points a b c d (A ∷ []) = IsBibd A u k 1 × (1 ≡ g)
CanBuildGdd k g u GddDelete a b c d (A ∷ []) = CanDeletePoint ((k - 1) * u + 1) k A × (k - 1 ≡ g)
CanBuildGdd k g u Weight w s c d (G ∷ D ∷ []) = CanWeight k g u w s G D
CanBuildGdd k g u Split c b p d (G ∷ D ∷ []) = CanSplit k g u c G D
CanBuildGdd k g u r a b c d I = ⊥
