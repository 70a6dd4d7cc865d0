-- The rules of block designs, those without premises and those with some: a candidate has what its construction needs, and the construction
-- gives the design. No rule is named here.
use Rattle.std.proofs.Common.{◌≡◌, ℕ, true, List, [], ◌∷◌}
use Rattle.design_base.specs.Blocks.{IsBibd}
use Rattle.design_base.specs.Canonical.{canonical}
use Rattle.design_base.specs.Limits.{in_bounds}
use Rattle.design_base.specs.declared.query.Query.TheVariants.{Bibd}
use Rattle.design_base.specs.declared.rule.Rule.{Rule}
use Rattle.rule_terms.specs.BibdTerms.{bibd_terms}
use Rattle.rule_terms.specs.RuleTree.{allows, premises_at}
use Rattle.derivations.specs.AllMeet.{AllMeet}
use Rattle.derivations.specs.BibdBlocks.{bibd_blocks, CanBuildBibd}
use Rattle.derivations.proofs.DirectBibds.{direct_can_build, direct_meets}
use Rattle.derivations.proofs.MadeBibds.{made_can_build, made_meets}

module _ (v k l : ℕ) (bounds : in_bounds (Bibd v k l) ≡ true) where
  pub bibd_can_build : (r : Rule) (a b c d : ℕ) (I : List (List (List ℕ))) → allows (bibd_terms v k l r) (a ∷ b ∷ c ∷ d ∷ []) ≡ true
      → AllMeet (premises_at (bibd_terms v k l r) (a ∷ b ∷ c ∷ d ∷ [])) I → CanBuildBibd v k l r a b c d I
  unfolding CanBuildBibd
  bibd_can_build r a b c d [] e meet = direct_can_build v k l bounds r a b c d e meet
  bibd_can_build r a b c d (A ∷ I) e meet = made_can_build v k l bounds r a b c d A I e meet

pub bibd_meets : (v k l : ℕ) (r : Rule) (a b c d : ℕ) (I : List (List (List ℕ))) → CanBuildBibd v k l r a b c d I → IsBibd (canonical (bibd_blocks v k l r a b c d I)) v k l
unfolding bibd_blocks CanBuildBibd
bibd_meets v k l r a b c d [] can = direct_meets v k l r a b can
bibd_meets v k l r a b c d (A ∷ I) can = made_meets v k l r a b (A ∷ I) can
