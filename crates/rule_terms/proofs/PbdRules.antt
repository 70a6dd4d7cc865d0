-- The rules of pairwise balanced designs are grounded: a case a rule.
use Rattle.std.proofs.Common.{◌≡◌, ℕ, ◌+◌, ◌*◌, ◌<◌, ◌≤◌, Bool, true, false, [], ◌∷◌, arith, refl}
use Rattle.rule_terms.proofs.Tests.{four_tests}
use Rattle.std.specs.Prelude.{if◌then◌else◌}
use Rattle.counting.proofs.Booleans.{both, eqb-true, leb-true}
use Rattle.counting.specs.Search.{◌<=◌}
use Rattle.design_base.specs.declared.limits.TheConstants.{POINTS_MAX, PREMISES_MAX}
use Rattle.design_base.specs.declared.query.Query.TheVariants.{Bibd, Pbd, Td}
use Rattle.design_base.specs.declared.rule.Rule.{Rule}
use Rattle.design_base.specs.declared.rule.Rule.TheVariants.{PbdOne, Bibds, Bibdt, PbdDelete, Truncate, Tdfill, Tdfill1}
use Rattle.design_base.specs.Limits.{in_bounds}
use Rattle.design_base.specs.Rules.{title}
use Rattle.rule_terms.specs.PbdTerms.{pbd_terms}
use Rattle.rule_terms.specs.Rank.{rank}
use Rattle.rule_terms.proofs.Bounds.{pbd_bounds}
use Rattle.rule_terms.proofs.Grounded.{AreGrounded, IsGrounded}
use Rattle.rule_terms.proofs.Products.{below_multiple}

td_smaller : (v s k n : ℕ) → n ≤ POINTS_MAX → rank (Td k n) < rank (Pbd v s)
unfolding rank
td_smaller v s k n h = omega arith

-- on one point more at most
block_smaller : (v s w k : ℕ) → w ≤ v + 1 → rank (Bibd w k 1) < rank (Pbd v s)
unfolding rank
block_smaller v s w k h = omega arith

-- on fewer points
part_smaller : (v s t : ℕ) → t < v → rank (Pbd t s) < rank (Pbd v s)
unfolding rank
part_smaller v s t h = omega arith

-- transversal designs are below, and truncated groups of one point ask nothing
truncate_grounded : (two : Bool) (v s t u : ℕ) → v ≤ POINTS_MAX → t < v → u < v → AreGrounded 0 (rank (Pbd v s)) (Td (s + 1) t ∷ Pbd t s ∷ (if two then Pbd u s ∷ [] else []))
truncate_grounded true v s t u few lt lu =
    record { last = refl; few = omega arith; smaller = (td_smaller v s (s + 1) t (omega arith), (part_smaller v s t lt, (part_smaller v s u lu, tt))) }
truncate_grounded false v s t u few lt lu =
    record { last = refl; few = omega arith; smaller = (td_smaller v s (s + 1) t (omega arith), (part_smaller v s t lt, tt)) }

pub pbd_grounded : (v s : ℕ) → in_bounds (Pbd v s) ≡ true → (r : Rule) → IsGrounded (title r).parameters (rank (Pbd v s)) (pbd_terms v s r)
unfolding pbd_terms
pbd_grounded v s b PbdOne = λ c bounds. record { last = refl; few = omega arith; smaller = tt }
pbd_grounded v s b Bibds = λ c bounds.
    let few : 1 ≤ PREMISES_MAX = omega arith in
    record { last = refl; few = few; smaller = (block_smaller v s v s (omega arith), tt) }
pbd_grounded v s b Bibdt = λ c bounds.
    let few : 1 ≤ PREMISES_MAX = omega arith in
    record { last = refl; few = few; smaller = (block_smaller v s v (s + 1) (omega arith), tt) }
pbd_grounded v s b PbdDelete = λ c bounds.
    let few : 1 ≤ PREMISES_MAX = omega arith in
    record { last = refl; few = few; smaller = (block_smaller v s (v + 1) (s + 1) (omega arith), tt) }
pbd_grounded v s b Truncate = λ t u c bounds.
    let tests = four_tests c in
    let e : s * t + u ≡ v = eqb-true _ _ tests.0 in
    let h : u ≤ t = leb-true _ _ tests.3 in
    let f = pbd_bounds v s b in
    let p = below_multiple s t f.least (omega (arith, leb-true _ _ tests.1)) in
    truncate_grounded (2 <= u) v s t u f.few (omega arith) (omega arith)
pbd_grounded v s b Tdfill = λ t c bounds.
    let few : 2 ≤ PREMISES_MAX = omega arith in
    let tests = both _ _ c in
    let e : s * t ≡ v = eqb-true _ _ tests.0 in
    let f = pbd_bounds v s b in
    let p = below_multiple s t f.least (omega (arith, leb-true _ _ tests.1)) in
    record { last = refl; few = few; smaller = (td_smaller v s s t (omega (arith, f.few)), (part_smaller v s t (omega arith), tt)) }
pbd_grounded v s b Tdfill1 = λ t k c bounds.
    let few : 2 ≤ PREMISES_MAX = omega arith in
    let tests = four_tests c in
    let e : k * t + 1 ≡ v = eqb-true _ _ tests.0 in
    let f = pbd_bounds v s b in
    let p = below_multiple k t (omega (arith, f.least, leb-true _ _ tests.2)) (omega (arith, leb-true _ _ tests.1)) in
    record { last = refl; few = few; smaller = (td_smaller v s k t (omega (arith, f.few)), (part_smaller v s (t + 1) (omega arith), tt)) }
pbd_grounded v s b r = λ c. cc
