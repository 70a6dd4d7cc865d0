-- What the steps of transversal designs make: for each rule the block list, from those of the premises, and what its construction needs.
-- The rules stand in the order of the table.
use Rattle.std.specs.Prelude.{ℕ, ◌≡◌, ◌+◌, ◌*◌, List, [], ◌∷◌}
use Rattle.design_base.specs.declared.rule.Rule.{Rule}
use Rattle.design_base.specs.declared.rule.Rule.TheVariants.{TdOne, Cyclic, Field, Product, Parker, Wilson1, Wilson2}
use Rattle.transversal.specs.Conditions.{CanBuildOne, CanBuildCyclic, CanBuildField, CanMultiply, CanUseParker}
use Rattle.transversal.specs.Constructions.{one_blocks, cyclic_blocks, field_blocks, product_blocks, parker_blocks}
use Rattle.wilson.specs.Conditions.{CanTruncateOnce, CanTruncateTwice}
use Rattle.wilson.specs.Truncations.{wilson_one_blocks, wilson_two_blocks}

-- the blocks with k groups of n points, in any order
unfoldable pub td_blocks : ℕ → ℕ → Rule → ℕ → ℕ → ℕ → ℕ → List (List (List ℕ)) → List (List ℕ)
td_blocks k n TdOne a b c d [] = one_blocks k
td_blocks k n Cyclic a b c d [] = cyclic_blocks k n
td_blocks k n Field a b c d [] = field_blocks k n
td_blocks k n Product a b c d (A ∷ B ∷ []) = product_blocks k a b A B
td_blocks k n Parker m b c d (A ∷ []) = parker_blocks m A
td_blocks k n Wilson1 m t u d (M ∷ A ∷ E ∷ U ∷ []) = wilson_one_blocks k m t u M A E U
td_blocks k n Wilson2 m t u w (M ∷ A ∷ E ∷ F ∷ U ∷ W ∷ []) = wilson_two_blocks k m t u w M A E F U W
td_blocks k n r a b c d I = []

-- the construction has what it needs, and gives k groups of n points
unfoldable pub CanBuildTd : ℕ → ℕ → Rule → ℕ → ℕ → ℕ → ℕ → List (List (List ℕ)) → Type 0
CanBuildTd k n TdOne a b c d [] = CanBuildOne k × (1 ≡ n)
CanBuildTd k n Cyclic a b c d [] = CanBuildCyclic k n
CanBuildTd k n Field a b c d [] = CanBuildField k n
CanBuildTd k n Product a b c d (A ∷ B ∷ []) = CanMultiply k a b A B × (a * b ≡ n)
CanBuildTd k n Parker m b c d (A ∷ []) = CanUseParker m A × (4 ≡ k) × (3 * m + 1 ≡ n)
CanBuildTd k n Wilson1 m t u d (M ∷ A ∷ E ∷ U ∷ []) = CanTruncateOnce k m t u M A E U × (m * t + u ≡ n)
CanBuildTd k n Wilson2 m t u w (M ∷ A ∷ E ∷ F ∷ U ∷ W ∷ []) = CanTruncateTwice k m t u w M A E F U W × (m * t + u + w ≡ n)
CanBuildTd k n r a b c d I = ⊥
