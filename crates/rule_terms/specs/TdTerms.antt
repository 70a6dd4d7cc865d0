-- The rules of transversal designs with k groups of n points, in their order. Ranges end where the condition can hold no more, so that a
-- walk through them ends early; the condition keeps the whole of what the rule asks.
use Rattle.std.specs.Prelude.{ℕ, ◌+◌, ◌-◌, ◌*◌, ◌/◌, ◌==◌, ◌&&◌, max, [], ◌∷◌}
use Rattle.counting.specs.Search.{◌<=◌}
use Rattle.design_base.specs.declared.query.Query.TheVariants.{Td}
use Rattle.design_base.specs.declared.rule.Rule.{Rule}
use Rattle.design_base.specs.declared.rule.Rule.TheVariants.{TdOne, Cyclic, Field, Product, Parker, Wilson1, Wilson2}
use Rattle.design_base.specs.Fields.{has_field}
use Rattle.rule_terms.specs.RuleTree.{RuleTree, when◌asks◌, from◌to◌take◌, only◌take◌, never}

unfoldable pub td_terms : ℕ → ℕ → Rule → RuleTree
td_terms k n TdOne = when n == 1 asks []
td_terms k n Cyclic = when 2 <= n && k <= 3 asks []
td_terms k n Field = when has_field n && k <= n + 1 asks []
td_terms k n Product = from 2 to n / 2 take (λ a. only n / a take (λ b.
    when a * b == n && 2 <= a && a <= b
    asks (Td k a ∷ Td k b ∷ [])))
td_terms k n Parker = only (n - 1) / 3 take (λ m.
    when k == 4 && 3 * m + 1 == n && 1 <= m
    asks (Td 4 m ∷ []))
td_terms k n Wilson1 = from 2 to n / k take (λ m. from k to n / m take (λ t. only n - m * t take (λ u.
    when m * t + u == n && 2 <= m && k <= t && 1 <= u && u <= t
    asks (Td (k + 1) t ∷ Td k m ∷ Td k (m + 1) ∷ Td k u ∷ []))))
td_terms k n Wilson2 = from max 2 (k - 2) to n / (k + 1) take (λ m. from k + 1 to n / m take (λ t. from (n - m * t + 1) / 2 to t take (λ u. only n - m * t - u take (λ w.
    when m * t + u + w == n && 2 <= m && k <= m + 2 && k + 1 <= t && 1 <= w && w <= u && u <= t
    asks (Td (k + 2) t ∷ Td k m ∷ Td k (m + 1) ∷ Td k (m + 2) ∷ Td k u ∷ Td k w ∷ [])))))
td_terms k n r = never
