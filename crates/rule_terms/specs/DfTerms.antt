-- The rules of difference families of blocks of k of the v elements of a group, in which each element but 0 is the difference of l pairs, in
-- their order. Each is tested: its condition is that what the rule asks holds, and that its list of base blocks passes a check.
use Rattle.std.specs.Prelude.{ℕ, [], length}
use Rattle.design_base.specs.declared.query.Group.{Group}
use Rattle.design_base.specs.declared.query.Query.TheVariants.{Df}
use Rattle.design_base.specs.declared.rule.Rule.{Rule}
use Rattle.design_base.specs.declared.rule.Rule.TheVariants.{Table, Powers, Cosets, Cosets0, Halfcosets}
use Rattle.design_base.specs.Steps.{step}
use Rattle.difference_sets.specs.FamilySteps.{is_tested_step}
use Rattle.difference_sets.specs.Listed.{families}
use Rattle.rule_terms.specs.RuleTree.{RuleTree, when◌asks◌, from◌to◌take◌, never}

unfoldable pub df_terms : Group → ℕ → ℕ → ℕ → Rule → RuleTree
df_terms group v k l Table = from 1 to length families take (λ entry.
    when is_tested_step (Df group v k l) (step Table entry 0 0 0)
    asks [])
df_terms group v k l Powers = from 2 to 8 take (λ e. from 0 to 1 take (λ z.
    when is_tested_step (Df group v k l) (step Powers e z 0 0)
    asks []))
df_terms group v k l Cosets = when is_tested_step (Df group v k l) (step Cosets 0 0 0 0) asks []
df_terms group v k l Cosets0 = when is_tested_step (Df group v k l) (step Cosets0 0 0 0 0) asks []
df_terms group v k l Halfcosets = when is_tested_step (Df group v k l) (step Halfcosets 0 0 0 0) asks []
df_terms group v k l r = never
