-- The rules of block designs of v points with blocks of k points, each two points in l blocks, in their order. Ranges end where the
-- condition can hold no more, so that a walk through them ends early; the condition keeps the whole of what the rule asks.
use Rattle.std.specs.Prelude.{ℕ, ◌+◌, ◌-◌, ◌*◌, ◌/◌, ◌%◌, ◌^◌, ◌==◌, true, nat_lt, not, ◌&&◌, [], ◌∷◌}
use Rattle.counting.specs.Division.{divides}
use Rattle.counting.specs.Search.{◌<=◌}
use Rattle.design_base.specs.declared.query.Group.TheVariants.{Cyclic, Field}
use Rattle.design_base.specs.declared.query.Query.TheVariants.{Bibd, Df, Gdd, Pbd}
use Rattle.design_base.specs.declared.rule.Rule.{Rule}
use Rattle.design_base.specs.declared.rule.Rule.TheVariants.{Whole, Pairs, Omit, Bose, Skolem, Double, Middle, Ordered, Affine, Projective, Unital, Arc, Developz, Developf, Fill, Fill1, Pbd as PbdRule, Sum, Complement}
use Rattle.design_base.specs.Fields.{has_field}
use Rattle.design_base.specs.Geometries.{point_count}
use Rattle.block_counts.specs.Counts.{replication_number, complement_cover}
use Rattle.design_checks.specs.Findings.{passes_check}
use Rattle.plane_curves.specs.Curves.{arc_blocks, unital_blocks}
use Rattle.rule_terms.specs.RuleTree.{RuleTree, when◌asks◌, from◌to◌take◌, only◌take◌, never}

unfoldable pub bibd_terms : ℕ → ℕ → ℕ → Rule → RuleTree
bibd_terms v k l Whole = when k == v asks []
bibd_terms v k l Pairs = when k == 2 asks []
bibd_terms v k l Omit = when k == v - 1 && 3 <= v && divides (v - 2) l asks []
bibd_terms v k l Bose = when k == 3 && l == 1 && v % 6 == 3 asks []
bibd_terms v k l Skolem = when k == 3 && l == 1 && v % 6 == 1 && 7 <= v asks []
bibd_terms v k l Double = when k == 3 && l == 2 && v % 3 <= 1 && not (v == 7) asks []
bibd_terms v k l Middle = when k == 3 && l == 3 && v % 2 == 1 asks []
bibd_terms v k l Ordered = when k == 3 && l == 6 asks []
bibd_terms v k l Affine = only k take (λ q. from 2 to v / q take (λ d.
    when k == q && l == 1 && has_field q && 2 <= d && v == q ^ d
    asks []))
bibd_terms v k l Projective = only k - 1 take (λ q. from 2 to v / q take (λ d.
    when k == q + 1 && l == 1 && has_field q && 2 <= d && v == point_count q d
    asks []))
bibd_terms v k l Unital = only k - 1 take (λ q.
    when k == q + 1 && l == 1 && v == q ^ 3 + 1 && 2 <= q && has_field (q ^ 2) && passes_check (Bibd v k l) (unital_blocks q)
    asks [])
bibd_terms v k l Arc = from 1 to 6 take (λ r. from r + 1 to 7 take (λ s.
    when k == 2 ^ r && l == 1 && v == 2 ^ (r + s) + 2 ^ r - 2 ^ s && 1 <= r && nat_lt r s && s <= 7 && has_field (2 ^ s) && passes_check (Bibd v k l) (arc_blocks r s)
    asks []))
bibd_terms v k l Developz = when true asks (Df Cyclic v k l ∷ [])
bibd_terms v k l Developf = when true asks (Df Field v k l ∷ [])
bibd_terms v k l Fill = from k to v / k take (λ g. only v / g take (λ u.
    when l == 1 && g * u == v && k <= g && k <= u
    asks (Gdd k g u ∷ Bibd g k 1 ∷ [])))
bibd_terms v k l Fill1 = from k to (v - 1) / k take (λ g. only (v - 1) / g take (λ u.
    when l == 1 && g * u == v - 1 && k <= g && k <= u
    asks (Gdd k g u ∷ Bibd (g + 1) k 1 ∷ [])))
bibd_terms v k l PbdRule = let n = (v - 1) / (k - 1) in from 2 to n - 2 take (λ s.
    when l == 1 && 3 <= k && divides (k - 1) (v - 1) && 2 <= s && nat_lt (s + 1) n
    asks (Pbd n s ∷ Bibd ((k - 1) * s + 1) k 1 ∷ Bibd ((k - 1) * (s + 1) + 1) k 1 ∷ []))
bibd_terms v k l Sum = from 1 to l / 2 take (λ i.
    when 1 <= i && 2 * i <= l
    asks (Bibd v k i ∷ Bibd v k (l - i) ∷ []))
bibd_terms v k l Complement =
    when nat_lt v (2 * k) && divides (k - 1) (l * (v - 1)) && divides k (v * replication_number v k l) && 1 <= complement_cover v k l
    asks (Bibd v (v - k) (complement_cover v k l) ∷ [])
bibd_terms v k l r = never
