-- The rules of group divisible designs of blocks of k points over u groups of g points, in their order. Ranges end where the condition can
-- hold no more; the condition keeps the whole of what the rule asks.
use Rattle.std.specs.Prelude.{ℕ, ◌+◌, ◌-◌, ◌*◌, ◌/◌, ◌==◌, nat_lt, ◌&&◌, ◌||◌, [], ◌∷◌}
use Rattle.counting.specs.Division.{divides}
use Rattle.counting.specs.Search.{◌<=◌}
use Rattle.design_base.specs.declared.query.Query.TheVariants.{Bibd, Gdd, Td as TdQuery}
use Rattle.design_base.specs.declared.rule.Rule.{Rule}
use Rattle.design_base.specs.declared.rule.Rule.TheVariants.{Td, Points, GddDelete, Weight, Split}
use Rattle.rule_terms.specs.RuleTree.{RuleTree, when◌asks◌, from◌to◌take◌, never}

unfoldable pub gdd_terms : ℕ → ℕ → ℕ → Rule → RuleTree
gdd_terms k g u Td = when u == k asks (TdQuery k g ∷ [])
gdd_terms k g u Points = when g == 1 asks (Bibd u k 1 ∷ [])
gdd_terms k g u GddDelete = when g == k - 1 asks (Bibd ((k - 1) * u + 1) k 1 ∷ [])
gdd_terms k g u Weight = from 2 to g take (λ w. from k to u take (λ s.
    when 2 <= w && divides w g && k <= s && s <= u && (2 <= g / w || nat_lt s u)
    asks (Gdd s (g / w) u ∷ Gdd k w s ∷ [])))
gdd_terms k g u Split = from 2 to u / 2 take (λ c.
    when 2 <= c && divides c u && 2 <= u / c
    asks (Gdd k (g * c) (u / c) ∷ Gdd k g c ∷ []))
gdd_terms k g u r = never
