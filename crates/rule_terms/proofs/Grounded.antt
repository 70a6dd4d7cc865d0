-- What every rule of the table keeps, as one relation on its terms. A new rule adds one case to the lemma of its kind (`td_grounded`
-- in TdRules, for transversal designs), and nothing else in this folder: how deep the walk goes, that premises are few, and that the
-- evaluation ends follow from it.
use Rattle.std.proofs.Common.{◌≡◌, ℕ, zero, suc, ◌<◌, ◌≤◌, true, List, length, arith}
use Rattle.std.specs.List.{AllByRecursion}
use Rattle.design_base.specs.declared.limits.TheConstants.{PREMISES_MAX}
use Rattle.design_base.specs.declared.query.Query.{Query}
use Rattle.design_base.specs.declared.rule.Rule.{Rule}
use Rattle.design_base.specs.declared.rule.Rule.TheVariants.{TdOne}
use Rattle.design_base.specs.Limits.{in_bounds}
use Rattle.design_base.specs.Rules.{title}
use Rattle.rule_terms.specs.RuleTree.{RuleTree, when◌asks◌, from◌to◌take◌}
use Rattle.rule_terms.specs.Rank.{rank}

-- no more parameters come, and the premises are few and rank below r
pub record AreGrounded (n r : ℕ) (premises : List Query) : Type 0 where
  pub last : n ≡ 0
  pub few : length premises ≤ PREMISES_MAX
  pub smaller : AllByRecursion (λ p. rank p < r) premises

-- n parameters are taken; and where the condition holds and the premises are in bounds, those are few and rank below r
abbrev pub IsGrounded : ℕ → ℕ → RuleTree → Type 0
IsGrounded n r (when condition asks premises) = condition ≡ true → AllByRecursion (λ p. in_bounds p ≡ true) premises → AreGrounded n r premises
IsGrounded zero r (from low to high take f) = ⊥
IsGrounded (suc n) r (from low to high take f) = (x : ℕ) → IsGrounded n r (f x)

pub few_parameters : (r : Rule) → (title r).parameters ≤ 4
few_parameters TdOne = omega arith
few_parameters r = omega arith
