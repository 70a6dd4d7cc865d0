-- The rules of block designs are grounded: a case a rule.
use Rattle.std.proofs.Common.{◌≡◌, ℕ, ◌+◌, ◌-◌, ◌*◌, ◌/◌, ◌<◌, ◌≤◌, true, arith, refl, inl, inr}
use Rattle.rule_terms.proofs.Tests.{five_tests, four_tests}
use Rattle.counting.proofs.Booleans.{both, cases_lt, eqb-true, leb-true, ltb-true}
use Rattle.std.proofs.Math.Nat.{mul-le-mul, mul-le-mul_left, div-mul-le_self, le-div_iff_mul-le}
use Rattle.design_base.specs.declared.limits.TheConstants.{PREMISES_MAX}
use Rattle.design_base.specs.declared.query.Group.{Group}
use Rattle.design_base.specs.declared.query.Group.TheVariants.{Cyclic, Field}
use Rattle.design_base.specs.declared.query.Query.TheVariants.{Bibd, Df, Gdd, Pbd}
use Rattle.design_base.specs.declared.rule.Rule.{Rule}
use Rattle.design_base.specs.declared.rule.Rule.TheVariants.{Whole, Pairs, Omit, Bose, Skolem, Double, Middle, Ordered, Affine, Projective, Unital, Arc, Developz, Developf, Fill, Fill1, Pbd as PbdRule, Sum, Complement}
use Rattle.design_base.specs.Limits.{in_bounds}
use Rattle.design_base.specs.Rules.{title}
use Rattle.block_counts.specs.Counts.{replication_number, complement_cover}
use Rattle.rule_terms.specs.BibdTerms.{bibd_terms}
use Rattle.rule_terms.specs.Rank.{rank}
use Rattle.rule_terms.proofs.Bounds.{bibd_bounds, gdd_bounds}
use Rattle.rule_terms.proofs.Grounded.{IsGrounded}
use Rattle.rule_terms.proofs.Products.{below_multiple}
use Rattle.rule_terms.proofs.Ranks.{rank_wide}

less_than_twice : (b r k : ℕ) → b * k < 2 * r * k → b < 2 * r
less_than_twice b r k h = elim (cases_lt b (2 * r)) [
  | inl lt ↦ lt
  | inr le ↦ let p : 2 * r * k ≤ b * k = mul-le-mul le (omega arith) in absurd (omega arith)
]

-- b + l - 2r is below l, since b k = v r < 2 k r
cover_falls : (v k r l : ℕ) → 1 ≤ r → v < 2 * k → 1 ≤ v * r / k + l - 2 * r → v * r / k + l - 2 * r < l
cover_falls v k r l lr h j =
    let d = div-mul-le_self (v * r) k in
    let p : (v + 1) * r ≤ 2 * k * r = mul-le-mul {n₁ = v + 1} {m₁ = r} {n₂ = 2 * k} {m₂ = r} (omega arith) (omega arith) in
    let e = less_than_twice (v * r / k) r k (omega arith) in
    omega arith

replication_positive : (v k l : ℕ) → 2 ≤ k → k ≤ v → 1 ≤ l → 1 ≤ replication_number v k l
replication_positive v k l lk h ll =
    let p : 1 * (v - 1) ≤ l * (v - 1) = mul-le-mul ll (omega arith) in
    (le-div_iff_mul-le {k = k - 1} {x = 1} {y = l * (v - 1)} (omega arith)).1 (omega arith)

pub complement_falls : (v k l : ℕ) → in_bounds (Bibd v k l) ≡ true → v < 2 * k → 1 ≤ complement_cover v k l → complement_cover v k l < l
complement_falls v k l b h j =
    let d = bibd_bounds v k l b in
    cover_falls v k (replication_number v k l) l (replication_positive v k l d.least d.block d.some) h j

-- the same points, and fewer blocks through two
same_points : (v k m i l : ℕ) → i < l → rank (Bibd v m i) < rank (Bibd v k l)
unfolding rank
same_points v k m i l h = omega arith

-- fewer points
points_smaller : (v k w m l : ℕ) → w < v → rank (Bibd w m 1) < rank (Bibd v k l)
unfolding rank
points_smaller v k w m l h = omega arith

-- difference families are below
family_smaller : (group : Group) (v k l : ℕ) → rank (Df group v k l) < rank (Bibd v k l)
unfolding rank
family_smaller group v k l = omega arith

-- no more points, in groups that hold a block
wide_smaller : (v k g u l : ℕ) → in_bounds (Gdd k g u) ≡ true → k ≤ g → g * u ≤ v → rank (Gdd k g u) < rank (Bibd v k l)
unfolding rank
wide_smaller v k g u l b h f = omega (arith, rank_wide k g u h, (gdd_bounds k g u b).few)

-- two points fewer
pbd_smaller : (v k n s l : ℕ) → n + 1 < v → rank (Pbd n s) < rank (Bibd v k l)
unfolding rank
pbd_smaller v k n s l h = omega arith

-- n lines of k - 1 points and a point more are on no more than v
record AreFewPoints (v k n s : ℕ) : Type 0 where
  pub lines : n + 1 < v
  pub short : (k - 1) * s + 1 < v
  pub long : (k - 1) * (s + 1) + 1 < v

lines_smaller : (v k n s : ℕ) → 3 ≤ k → s + 1 < n → n * (k - 1) ≤ v - 1 → AreFewPoints v k n s
lines_smaller v k n s lk h e =
    let p : n * 2 ≤ n * (k - 1) = mul-le-mul_left n (omega arith) in
    let q : (k - 1) * (s + 2) ≤ (k - 1) * n = mul-le-mul_left (k - 1) (omega arith) in
    record { lines = omega arith; short = omega arith; long = omega arith }

pub bibd_grounded : (v k l : ℕ) → in_bounds (Bibd v k l) ≡ true → (r : Rule) → IsGrounded (title r).parameters (rank (Bibd v k l)) (bibd_terms v k l r)
unfolding bibd_terms
bibd_grounded v k l b Whole = λ c bounds. record { last = refl; few = omega arith; smaller = tt }
bibd_grounded v k l b Pairs = λ c bounds. record { last = refl; few = omega arith; smaller = tt }
bibd_grounded v k l b Omit = λ c bounds. record { last = refl; few = omega arith; smaller = tt }
bibd_grounded v k l b Bose = λ c bounds. record { last = refl; few = omega arith; smaller = tt }
bibd_grounded v k l b Skolem = λ c bounds. record { last = refl; few = omega arith; smaller = tt }
bibd_grounded v k l b Double = λ c bounds. record { last = refl; few = omega arith; smaller = tt }
bibd_grounded v k l b Middle = λ c bounds. record { last = refl; few = omega arith; smaller = tt }
bibd_grounded v k l b Ordered = λ c bounds. record { last = refl; few = omega arith; smaller = tt }
bibd_grounded v k l b Affine = λ q d c bounds. record { last = refl; few = omega arith; smaller = tt }
bibd_grounded v k l b Projective = λ q d c bounds. record { last = refl; few = omega arith; smaller = tt }
bibd_grounded v k l b Unital = λ q c bounds. record { last = refl; few = omega arith; smaller = tt }
bibd_grounded v k l b Arc = λ r s c bounds. record { last = refl; few = omega arith; smaller = tt }
bibd_grounded v k l b Developz = λ c bounds.
    let few : 1 ≤ PREMISES_MAX = omega arith in
    record { last = refl; few = few; smaller = (family_smaller Cyclic v k l, tt) }
bibd_grounded v k l b Developf = λ c bounds.
    let few : 1 ≤ PREMISES_MAX = omega arith in
    record { last = refl; few = few; smaller = (family_smaller Field v k l, tt) }
bibd_grounded v k l b Fill = λ g u c bounds.
    let few : 2 ≤ PREMISES_MAX = omega arith in
    let tests = four_tests c in
    let h : k ≤ g = leb-true _ _ tests.2 in
    let e : g * u ≡ v = eqb-true _ _ tests.1 in
    let d = gdd_bounds k g u bounds.0 in
    let f = below_multiple u g d.groups d.some in
    record { last = refl; few = few; smaller = (wide_smaller v k g u l bounds.0 h (omega arith), (points_smaller v k g k l (omega arith), tt)) }
bibd_grounded v k l b Fill1 = λ g u c bounds.
    let few : 2 ≤ PREMISES_MAX = omega arith in
    let tests = four_tests c in
    let h : k ≤ g = leb-true _ _ tests.2 in
    let e : g * u ≡ v - 1 = eqb-true _ _ tests.1 in
    let d = gdd_bounds k g u bounds.0 in
    let f = below_multiple u g d.groups d.some in
    record { last = refl; few = few; smaller = (wide_smaller v k g u l bounds.0 h (omega arith), (points_smaller v k (g + 1) k l (omega arith), tt)) }
bibd_grounded v k l b PbdRule = λ s c bounds.
    let few : 3 ≤ PREMISES_MAX = omega arith in
    let tests = five_tests c in
    let f = lines_smaller v k ((v - 1) / (k - 1)) s (leb-true _ _ tests.1) (ltb-true _ _ tests.4) (div-mul-le_self (v - 1) (k - 1)) in
    record { last = refl; few = few; smaller = (pbd_smaller v k ((v - 1) / (k - 1)) s l f.lines, (points_smaller v k ((k - 1) * s + 1) k l f.short, (points_smaller v k ((k - 1) * (s + 1) + 1) k l f.long, tt))) }
bibd_grounded v k l b Sum = λ i c bounds.
    let few : 2 ≤ PREMISES_MAX = omega arith in
    let tests = both _ _ c in
    let some : 1 ≤ i = leb-true _ _ tests.0 in
    let half : 2 * i ≤ l = leb-true _ _ tests.1 in
    record { last = refl; few = few; smaller = (same_points v k k i l (omega arith), (same_points v k k (l - i) l (omega arith), tt)) }
bibd_grounded v k l b Complement = λ c bounds.
    let few : 1 ≤ PREMISES_MAX = omega arith in
    let tests = four_tests c in
    let f = complement_falls v k l b (ltb-true _ _ tests.0) (leb-true _ _ tests.3) in
    record { last = refl; few = few; smaller = (same_points v k (v - k) _ l f, tt) }
bibd_grounded v k l b r = λ c. cc
