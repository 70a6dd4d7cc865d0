-- What the steps of pairwise balanced designs make: for each rule the block list, from those of the premises, and what its construction
-- needs. The rules stand in the order of the table.
use Rattle.std.specs.Prelude.{ℕ, ◌≡◌, ◌⊎◌, ◌+◌, ◌*◌, List, [], ◌∷◌, None, Some}
use Rattle.design_base.specs.Blocks.{IsBibd}
use Rattle.design_base.specs.declared.rule.Rule.{Rule}
use Rattle.design_base.specs.declared.rule.Rule.TheVariants.{PbdOne, Bibds, Bibdt, PbdDelete, Truncate, Tdfill, Tdfill1}
use Rattle.gdd_pbd.specs.Basic.{whole_blocks}
use Rattle.gdd_pbd.specs.Conditions.{CanDropPoint, CanRepeat, CanTdFill, CanTdFillWithPoint, CanTruncatePbd}
use Rattle.gdd_pbd.specs.Deleting.{below_point}
use Rattle.gdd_pbd.specs.Filling.{fill, fill_with_point}
use Rattle.gdd_pbd.specs.Truncating.{truncated}

-- the blocks of s and s + 1 of v points, in any order
unfoldable pub pbd_blocks : ℕ → ℕ → Rule → ℕ → ℕ → ℕ → ℕ → List (List (List ℕ)) → List (List ℕ)
pbd_blocks v s PbdOne a b c d [] = whole_blocks v 1
pbd_blocks v s Bibds a b c d (A ∷ []) = A
pbd_blocks v s Bibdt a b c d (A ∷ []) = A
pbd_blocks v s PbdDelete a b c d (A ∷ []) = below_point v A
pbd_blocks v s Truncate t u c d (T ∷ P ∷ []) = truncated s t u T P None
pbd_blocks v s Truncate t u c d (T ∷ P ∷ Q ∷ []) = truncated s t u T P (Some Q)
pbd_blocks v s Tdfill t b c d (T ∷ P ∷ []) = fill t s T P
pbd_blocks v s Tdfill1 t c p d (T ∷ P ∷ []) = fill_with_point t c T P
pbd_blocks v s r a b c d I = []

-- the construction has what it needs, and gives blocks of s and s + 1 of v points
unfoldable pub CanBuildPbd : ℕ → ℕ → Rule → ℕ → ℕ → ℕ → ℕ → List (List (List ℕ)) → Type 0
CanBuildPbd v s PbdOne a b c d [] = CanRepeat v 1 × ((v ≡ s) ⊎ (v ≡ s + 1))
CanBuildPbd v s Bibds a b c d (A ∷ []) = IsBibd A v s 1
CanBuildPbd v s Bibdt a b c d (A ∷ []) = IsBibd A v (s + 1) 1
CanBuildPbd v s PbdDelete a b c d (A ∷ []) = CanDropPoint (v + 1) s A
CanBuildPbd v s Truncate t u c d (T ∷ P ∷ []) = CanTruncatePbd s t u T P None × (s * t + u ≡ v)
CanBuildPbd v s Truncate t u c d (T ∷ P ∷ Q ∷ []) = CanTruncatePbd s t u T P (Some Q) × (s * t + u ≡ v)
CanBuildPbd v s Tdfill t b c d (T ∷ P ∷ []) = CanTdFill s t T P × (s * t ≡ v)
CanBuildPbd v s Tdfill1 t c p d (T ∷ P ∷ []) = CanTdFillWithPoint s c t T P × (c * t + 1 ≡ v)
CanBuildPbd v s r a b c d I = ⊥
