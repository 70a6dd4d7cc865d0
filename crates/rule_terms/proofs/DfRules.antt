-- The rules of difference families are grounded: a case a rule. They have no premises.
use Rattle.std.proofs.Common.{ℕ, arith, refl}
use Rattle.design_base.specs.declared.query.Group.{Group}
use Rattle.design_base.specs.declared.rule.Rule.{Rule}
use Rattle.design_base.specs.declared.rule.Rule.TheVariants.{Table, Powers, Cosets, Cosets0, Halfcosets}
use Rattle.design_base.specs.Rules.{title}
use Rattle.rule_terms.specs.DfTerms.{df_terms}
use Rattle.rule_terms.proofs.Grounded.{IsGrounded}

pub df_grounded : (group : Group) (v k l r : ℕ) (rule : Rule) → IsGrounded (title rule).parameters r (df_terms group v k l rule)
unfolding df_terms
df_grounded group v k l r Table = λ entry c bounds. record { last = refl; few = omega arith; smaller = tt }
df_grounded group v k l r Powers = λ e z c bounds. record { last = refl; few = omega arith; smaller = tt }
df_grounded group v k l r Cosets = λ c bounds. record { last = refl; few = omega arith; smaller = tt }
df_grounded group v k l r Cosets0 = λ c bounds. record { last = refl; few = omega arith; smaller = tt }
df_grounded group v k l r Halfcosets = λ c bounds. record { last = refl; few = omega arith; smaller = tt }
df_grounded group v k l r rule = λ c. cc
