-- Each candidate makes, of block lists that meet its premises, a block list that meets its question.
use Rattle.std.proofs.Common.{◌≡◌, ℕ, List, true}
use Rattle.counting.proofs.Booleans.{both}
use Rattle.design_base.specs.Limits.{in_bounds}
use Rattle.design_base.specs.Meets.{Meets}
use Rattle.design_base.specs.Rules.{kind_of, serves}
use Rattle.design_base.specs.Steps.{Step}
use Rattle.design_base.specs.declared.query.Query.{Query}
use Rattle.design_base.specs.declared.query.Query.TheVariants.{Td, Df, Bibd, Gdd, Pbd}
use Rattle.rule_table.specs.Candidates.{is_candidate, premises, four}
use Rattle.rule_terms.specs.Table.{terms}
use Rattle.rule_terms.specs.RuleTree.{allows}
use Rattle.derivations.specs.AllMeet.{AllMeet}
use Rattle.derivations.specs.Blocks.{blocks, built, CanBuild}
use Rattle.derivations.proofs.BibdBlocks.{bibd_can_build, bibd_meets}
use Rattle.derivations.proofs.DfBlocks.{df_can_build, df_meets}
use Rattle.derivations.proofs.GddBlocks.{gdd_can_build, gdd_meets}
use Rattle.derivations.proofs.PbdBlocks.{pbd_can_build, pbd_meets}
use Rattle.derivations.proofs.TdBlocks.{td_can_build, td_meets}

allowed : (q : Query) (s : Step) → is_candidate q s ≡ true → allows (terms q s.rule) (four s) ≡ true
unfolding is_candidate
allowed q s e = (both (serves (kind_of q) s.rule) (allows (terms q s.rule) (four s)) e).1

pub step_can_build : (q : Query) (s : Step) (I : List (List (List ℕ))) → in_bounds q ≡ true → is_candidate q s ≡ true → AllMeet (premises q s) I
    → CanBuild q s.rule s.a s.b s.c s.d I
unfolding premises terms allows
step_can_build (Td k n) s I bounds candidate meet = td_can_build k n bounds s.rule s.a s.b s.c s.d I (allowed (Td k n) s candidate) meet
step_can_build (Df g v k l) s I bounds candidate meet = df_can_build g v k l bounds s.rule s.a s.b s.c s.d I (allowed (Df g v k l) s candidate) meet
step_can_build (Bibd v k l) s I bounds candidate meet = bibd_can_build v k l bounds s.rule s.a s.b s.c s.d I (allowed (Bibd v k l) s candidate) meet
step_can_build (Gdd k g u) s I bounds candidate meet = gdd_can_build k g u bounds s.rule s.a s.b s.c s.d I (allowed (Gdd k g u) s candidate) meet
step_can_build (Pbd v t) s I bounds candidate meet = pbd_can_build v t bounds s.rule s.a s.b s.c s.d I (allowed (Pbd v t) s candidate) meet

-- and what can be built is a design
pub built_meets : (q : Query) (s : Step) (I : List (List (List ℕ))) → CanBuild q s.rule s.a s.b s.c s.d I → Meets q (blocks q s I)
unfolding blocks built
built_meets (Td k n) s I can = td_meets k n s.rule s.a s.b s.c s.d I can
built_meets (Df g v k l) s I can = df_meets g v k l s.rule s.a s.b s.c s.d I can
built_meets (Bibd v k l) s I can = bibd_meets v k l s.rule s.a s.b s.c s.d I can
built_meets (Gdd k g u) s I can = gdd_meets k g u s.rule s.a s.b s.c s.d I can
built_meets (Pbd v t) s I can = pbd_meets v t s.rule s.a s.b s.c s.d I can

pub step_meets : (q : Query) (s : Step) (I : List (List (List ℕ))) → in_bounds q ≡ true → is_candidate q s ≡ true → AllMeet (premises q s) I → Meets q (blocks q s I)
step_meets q s I bounds candidate meet = built_meets q s I (step_can_build q s I bounds candidate meet)
