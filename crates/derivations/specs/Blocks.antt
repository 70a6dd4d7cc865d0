-- The block list of a step, from the block lists of its premises, by the kind of the question.
use Rattle.std.specs.Prelude.{ℕ, List}
use Rattle.design_base.specs.Canonical.{canonical}
use Rattle.design_base.specs.Steps.{Step}
use Rattle.design_base.specs.declared.query.Query.{Query}
use Rattle.design_base.specs.declared.query.Query.TheVariants.{Td, Df, Bibd, Gdd, Pbd}
use Rattle.design_base.specs.declared.rule.Rule.{Rule}
use Rattle.derivations.specs.BibdBlocks.{bibd_blocks, CanBuildBibd}
use Rattle.derivations.specs.DfBlocks.{df_blocks, CanBuildDf}
use Rattle.derivations.specs.GddBlocks.{gdd_blocks, CanBuildGdd}
use Rattle.derivations.specs.PbdBlocks.{pbd_blocks, CanBuildPbd}
use Rattle.derivations.specs.TdBlocks.{td_blocks, CanBuildTd}

-- the blocks of a rule with its parameters, in any order
unfoldable pub built : Query → Rule → ℕ → ℕ → ℕ → ℕ → List (List (List ℕ)) → List (List ℕ)
built (Td k n) r a b c d I = td_blocks k n r a b c d I
built (Df group v k l) r a b c d I = df_blocks group v k l r a b c d I
built (Bibd v k l) r a b c d I = bibd_blocks v k l r a b c d I
built (Gdd k g u) r a b c d I = gdd_blocks k g u r a b c d I
built (Pbd v s) r a b c d I = pbd_blocks v s r a b c d I

-- the construction of a rule has what it needs
abbrev pub CanBuild : Query → Rule → ℕ → ℕ → ℕ → ℕ → List (List (List ℕ)) → Type 0
CanBuild (Td k n) r a b c d I = CanBuildTd k n r a b c d I
CanBuild (Df group v k l) r a b c d I = CanBuildDf group v k l r a b c d I
CanBuild (Bibd v k l) r a b c d I = CanBuildBibd v k l r a b c d I
CanBuild (Gdd k g u) r a b c d I = CanBuildGdd k g u r a b c d I
CanBuild (Pbd v s) r a b c d I = CanBuildPbd v s r a b c d I

-- the block list of a step, in canonical form
unfoldable pub blocks : Query → Step → List (List (List ℕ)) → List (List ℕ)
blocks q s I = canonical (built q s.rule s.a s.b s.c s.d I)
