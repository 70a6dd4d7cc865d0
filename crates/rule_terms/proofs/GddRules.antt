-- The rules of group divisible designs are grounded: a case a rule.
use Rattle.std.proofs.Common.{◌≡◌, ℕ, ◌+◌, ◌-◌, ◌*◌, ◌/◌, ◌^◌, ◌<◌, ◌≤◌, true, ◌||◌, arith, ap, refl, inl, inr}
use Rattle.rule_terms.proofs.Tests.{five_tests, three_tests}
use Rattle.std.specs.Prelude.{nat_lt}
use Rattle.counting.specs.Division.{divides}
use Rattle.counting.specs.Search.{◌<=◌}
use Rattle.counting.proofs.Booleans.{cases_lt, eqb-true, leb-true}
use Rattle.std.proofs.lemmas.Bool.Decides.{nat_tests}
use Rattle.std.proofs.Math.Nat.{mul-le-mul, mul-le-mul_left, div-add-mod'}
use Rattle.design_base.specs.declared.limits.TheConstants.{POINTS_MAX, PREMISES_MAX}
use Rattle.design_base.specs.declared.query.Query.TheVariants.{Bibd, Gdd, Td as TdQuery}
use Rattle.design_base.specs.declared.rule.Rule.{Rule}
use Rattle.design_base.specs.declared.rule.Rule.TheVariants.{Td, Points, GddDelete, Weight, Split}
use Rattle.design_base.specs.Limits.{in_bounds}
use Rattle.design_base.specs.Rules.{title}
use Rattle.rule_terms.specs.GddTerms.{gdd_terms}
use Rattle.rule_terms.specs.Rank.{rank}
use Rattle.rule_terms.proofs.Bounds.{gdd_bounds}
use Rattle.rule_terms.proofs.Grounded.{IsGrounded}
use Rattle.rule_terms.proofs.Products.{below_multiple}
use Rattle.rule_terms.proofs.Ranks.{rank_least, rank_most, rank_narrow, rank_wide}

-- transversal designs are below
td_smaller : (k g u m n : ℕ) → n ≤ POINTS_MAX → rank (TdQuery m n) < rank (Gdd k g u)
unfolding rank
td_smaller k g u m n h = omega (arith, rank_least k g u)

-- a block design on one point more than a design of groups that are smaller than a block
block_smaller : (k g u v m : ℕ) → g < k → v ≤ g * u + 1 → rank (Bibd v m 1) < rank (Gdd k g u)
unfolding rank
block_smaller k g u v m h f = omega (arith, rank_narrow k g u h)

-- two points fewer
fewer_points : (k g u m h w : ℕ) → w < 2 ^ 16 → h * w + 2 ≤ g * u → rank (Gdd m h w) < rank (Gdd k g u)
fewer_points k g u m h w small f = omega (arith, rank_most m h w, rank_least k g u)

-- no more points in fewer groups, which are no smaller
fewer_groups : (k g u h w : ℕ) → w < u → u < 2 ^ 16 → g ≤ h → h * w ≤ g * u → rank (Gdd k h w) < rank (Gdd k g u)
fewer_groups k g u h w lw lu le f = elim (cases_lt g k) [
  | inl narrow ↦ omega (arith, rank_most k h w, rank_narrow k g u narrow)
  | inr wide ↦ omega (arith, rank_wide k h w (omega arith), rank_wide k g u wide)
]

-- where d divides n
divided : (d n : ℕ) → divides d n ≡ true → n / d * d ≡ n
divided d n e = omega (arith, div-add-mod' n d, eqb-true _ _ e)

-- groups of g = h * w points, each point of h taken w times: the master design
master_smaller : (g u h w : ℕ) → 2 ≤ w → 1 ≤ h → 2 ≤ u → h * w ≡ g → h * u + 2 ≤ g * u
master_smaller g u h w lw lh lu e =
    let p : h * 2 ≤ h * w = mul-le-mul_left h lw in
    let q : h * 2 * u ≤ g * u = mul-le-mul (omega arith) (omega arith) in
    let r : 1 * u ≤ h * u = mul-le-mul lh (omega arith) in
    omega arith

-- and the one that fills a block of s of its points
filler_smaller : (g u h w s : ℕ) → 2 ≤ w → 1 ≤ h → 2 ≤ s → s ≤ u → (2 <= h || nat_lt s u) ≡ true → h * w ≡ g → w * s + 2 ≤ g * u
filler_smaller g u h w s lw lh ls lu c e = elim (cases_lt 1 h) [
  | inl more ↦
      let p : 2 * w ≤ h * w = mul-le-mul more (omega arith) in
      let q : 2 * w * s ≤ g * u = mul-le-mul (omega arith) lu in
      let r : 2 * s ≤ w * s = mul-le-mul lw (omega arith) in
      omega arith
  | inr one ↦
      let f : s + 1 ≤ u = grind (arith, nat_tests) in
      let p : h * w ≡ 1 * w = ap (λ x. x * w) (let d : h ≡ 1 = omega arith in d) in
      let q : w * (s + 1) ≤ g * u = mul-le-mul (omega arith) f in
      omega arith
]

pub gdd_grounded : (k g u : ℕ) → in_bounds (Gdd k g u) ≡ true → (r : Rule) → IsGrounded (title r).parameters (rank (Gdd k g u)) (gdd_terms k g u r)
unfolding gdd_terms
gdd_grounded k g u b Td = λ c bounds.
    let few : 1 ≤ PREMISES_MAX = omega arith in
    record { last = refl; few = few; smaller = (td_smaller k g u k g (gdd_bounds k g u b).small, tt) }
gdd_grounded k g u b Points = λ c bounds.
    let few : 1 ≤ PREMISES_MAX = omega arith in
    let d = gdd_bounds k g u b in
    let e : g ≡ 1 = eqb-true _ _ c in
    let p : g * u ≡ 1 * u = ap (λ x. x * u) e in
    record { last = refl; few = few; smaller = (block_smaller k g u u k (omega (arith, d.least)) (omega arith), tt) }
gdd_grounded k g u b GddDelete = λ c bounds.
    let few : 1 ≤ PREMISES_MAX = omega arith in
    let d = gdd_bounds k g u b in
    let e : g ≡ k - 1 = eqb-true _ _ c in
    let p : g * u ≡ (k - 1) * u = ap (λ x. x * u) e in
    record { last = refl; few = few; smaller = (block_smaller k g u ((k - 1) * u + 1) k (omega (arith, d.least)) (omega arith), tt) }
gdd_grounded k g u b Weight = λ w s c bounds.
    let few : 2 ≤ PREMISES_MAX = omega arith in
    let tests = five_tests c in
    let lw : 2 ≤ w = leb-true _ _ tests.0 in
    let lu : s ≤ u = leb-true _ _ tests.3 in
    let e = divided w g tests.1 in
    let master = gdd_bounds s (g / w) u bounds.0 in
    let filler = gdd_bounds k w s bounds.1.0 in
    let f = master_smaller g u (g / w) w lw master.some master.groups e in
    let h = filler_smaller g u (g / w) w s lw master.some filler.groups lu tests.4 e in
    record { last = refl; few = few; smaller = (fewer_points k g u s (g / w) u (omega (arith, master.few)) f, (fewer_points k g u k w s (omega (arith, filler.few)) h, tt)) }
gdd_grounded k g u b Split = λ n c bounds.
    let few : 2 ≤ PREMISES_MAX = omega arith in
    let tests = three_tests c in
    let ln : 2 ≤ n = leb-true _ _ tests.0 in
    let lq : 2 ≤ u / n = leb-true _ _ tests.2 in
    let e = divided n u tests.1 in
    let small : u < 2 ^ 16 = omega (arith, (gdd_bounds k g u b).few) in
    let p : u / n < n * (u / n) = below_multiple n (u / n) ln (omega arith) in
    let q : n < u / n * n = below_multiple (u / n) n lq (omega arith) in
    let r : g * (u / n * n) ≡ g * u = ap (λ x. g * x) e in
    let larger : g * 1 ≤ g * n = mul-le-mul_left g (omega arith) in
    let fewer : g * n ≤ g * u = mul-le-mul_left g (omega arith) in
    record { last = refl; few = few; smaller = (fewer_groups k g u (g * n) (u / n) (omega arith) small (omega arith) (omega arith), (fewer_groups k g u g n (omega arith) small (omega arith) fewer, tt)) }
gdd_grounded k g u b r = λ c. cc
