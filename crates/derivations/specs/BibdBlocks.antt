-- What the steps of block designs make, and what their constructions need: those without premises, and those with some.
use Rattle.std.specs.Prelude.{ℕ, List, [], ◌∷◌}
use Rattle.design_base.specs.declared.rule.Rule.{Rule}
use Rattle.derivations.specs.DirectBibds.{direct_blocks, CanBuildDirect}
use Rattle.derivations.specs.MadeBibds.{made_blocks, CanBuildMade}

-- the blocks of k of v points, each two points in l of them, in any order
unfoldable pub bibd_blocks : ℕ → ℕ → ℕ → Rule → ℕ → ℕ → ℕ → ℕ → List (List (List ℕ)) → List (List ℕ)
bibd_blocks v k l r a b c d [] = direct_blocks v l r a b
bibd_blocks v k l r a b c d (A ∷ I) = made_blocks v k r a b (A ∷ I)

-- the construction has what it needs, and gives blocks of k of v points, each two points in l of them
unfoldable pub CanBuildBibd : ℕ → ℕ → ℕ → Rule → ℕ → ℕ → ℕ → ℕ → List (List (List ℕ)) → Type 0
CanBuildBibd v k l r a b c d [] = CanBuildDirect v k l r a b
CanBuildBibd v k l r a b c d (A ∷ I) = CanBuildMade v k l r a b (A ∷ I)
