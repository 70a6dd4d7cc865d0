-- The rules of pairwise balanced designs of v points with blocks of s and of s + 1 points, in their order. Ranges end where the condition can
-- hold no more; the condition keeps the whole of what the rule asks.
use Rattle.std.specs.Prelude.{ℕ, ◌+◌, ◌-◌, ◌*◌, ◌/◌, ◌==◌, true, ◌&&◌, ◌||◌, [], ◌∷◌, if◌then◌else◌}
use Rattle.counting.specs.Search.{◌<=◌}
use Rattle.design_base.specs.declared.query.Query.TheVariants.{Bibd, Pbd, Td}
use Rattle.design_base.specs.declared.rule.Rule.{Rule}
use Rattle.design_base.specs.declared.rule.Rule.TheVariants.{PbdOne, Bibds, Bibdt, PbdDelete, Truncate, Tdfill, Tdfill1}
use Rattle.rule_terms.specs.RuleTree.{RuleTree, when◌asks◌, from◌to◌take◌, only◌take◌, never}

unfoldable pub pbd_terms : ℕ → ℕ → Rule → RuleTree
pbd_terms v s PbdOne = when v == s || v == s + 1 asks []
pbd_terms v s Bibds = when true asks (Bibd v s 1 ∷ [])
pbd_terms v s Bibdt = when true asks (Bibd v (s + 1) 1 ∷ [])
pbd_terms v s PbdDelete = when true asks (Bibd (v + 1) (s + 1) 1 ∷ [])
pbd_terms v s Truncate = from 2 to v / s take (λ t. only v - s * t take (λ u.
    when s * t + u == v && 2 <= t && 1 <= u && u <= t
    asks (Td (s + 1) t ∷ Pbd t s ∷ (if 2 <= u then Pbd u s ∷ [] else []))))
pbd_terms v s Tdfill = only v / s take (λ t.
    when s * t == v && 2 <= t
    asks (Td s t ∷ Pbd t s ∷ []))
pbd_terms v s Tdfill1 = from 2 to (v - 1) / s take (λ t. from s to s + 1 take (λ c.
    when c * t + 1 == v && 2 <= t && s <= c && c <= s + 1
    asks (Td c t ∷ Pbd (t + 1) s ∷ [])))
pbd_terms v s r = never
