-- What the steps of block designs with premises make: for each rule the block list, by its parameters a and b, from those of the premises,
-- and what its construction needs. The rules stand in the order of the table.
use Rattle.std.specs.Prelude.{ℕ, ◌+◌, ◌-◌, ◌*◌, ◌/◌, List, [], ◌∷◌, ◌++◌}
use Rattle.design_base.specs.declared.query.Group.TheVariants.{Cyclic, Field}
use Rattle.design_base.specs.declared.rule.Rule.{Rule}
use Rattle.design_base.specs.declared.rule.Rule.TheVariants.{Developz, Developf, Fill, Fill1, Pbd, Sum, Complement}
use Rattle.difference_sets.specs.Conditions.{CanDevelop}
use Rattle.difference_sets.specs.Develop.{developed}
use Rattle.gdd_pbd.specs.Basic.{complement}
use Rattle.gdd_pbd.specs.Conditions.{CanComplement, CanFill, CanFillWithPoint, CanPbdToBibd, CanSum}
use Rattle.gdd_pbd.specs.Filling.{fill, fill_with_point}
use Rattle.gdd_pbd.specs.FromPbd.{from_pbd}
use Rattle.derivations.specs.Sizes.{HasSizes}

-- the blocks of k of v points, in any order
unfoldable pub made_blocks : ℕ → ℕ → Rule → ℕ → ℕ → List (List (List ℕ)) → List (List ℕ)
made_blocks v k Developz a b (F ∷ []) = developed Cyclic v F
made_blocks v k Developf a b (F ∷ []) = developed Field v F
made_blocks v k Fill g u (G ∷ D ∷ []) = fill g u G D
made_blocks v k Fill1 g u (G ∷ D ∷ []) = fill_with_point g u G D
made_blocks v k Pbd s b (P ∷ C ∷ D ∷ []) = from_pbd (k - 1) ((v - 1) / (k - 1)) s P C D
made_blocks v k Sum i b (A ∷ B ∷ []) = A ++ B
made_blocks v k Complement a b (A ∷ []) = complement v A
made_blocks v k r a b I = []

-- the construction has what it needs, and gives blocks of k of v points, each two points in l of them
unfoldable pub CanBuildMade : ℕ → ℕ → ℕ → Rule → ℕ → ℕ → List (List (List ℕ)) → Type 0
CanBuildMade v k l Developz a b (F ∷ []) = CanDevelop Cyclic v k l F
CanBuildMade v k l Developf a b (F ∷ []) = CanDevelop Field v k l F
CanBuildMade v k l Fill g u (G ∷ D ∷ []) = CanFill k g u G D × HasSizes v k l (g * u) k
CanBuildMade v k l Fill1 g u (G ∷ D ∷ []) = CanFillWithPoint k g u G D × HasSizes v k l (g * u + 1) k
CanBuildMade v k l Pbd s b (P ∷ C ∷ D ∷ []) = CanPbdToBibd ((v - 1) / (k - 1)) s k P C D × HasSizes v k l ((k - 1) * ((v - 1) / (k - 1)) + 1) k
CanBuildMade v k l Sum i b (A ∷ B ∷ []) = CanSum v k l i A B
CanBuildMade v k l Complement a b (A ∷ []) = CanComplement v k l A
CanBuildMade v k l r a b I = ⊥
