-- The rules of transversal designs are grounded: a case a rule.
use Rattle.std.proofs.Common.{◌≡◌, ℕ, ◌+◌, ◌*◌, ◌<◌, ◌≤◌, arith, refl}
use Rattle.rule_terms.proofs.Tests.{five_tests, seven_tests, three_tests}
use Rattle.counting.proofs.Booleans.{eqb-true, leb-true}
use Rattle.std.proofs.Math.Nat.{mul-le-mul_left, mul-le-mul}
use Rattle.design_base.specs.declared.limits.TheConstants.{PREMISES_MAX}
use Rattle.design_base.specs.declared.rule.Rule.{Rule}
use Rattle.design_base.specs.declared.rule.Rule.TheVariants.{TdOne, Cyclic, Field, Product, Parker, Wilson1, Wilson2}
use Rattle.design_base.specs.Rules.{title}
use Rattle.rule_terms.specs.Rank.{rank}
use Rattle.rule_terms.specs.TdTerms.{td_terms}
use Rattle.rule_terms.proofs.Bounds.{td_bounds}
use Rattle.rule_terms.proofs.Grounded.{IsGrounded}

product_smaller : (a b n : ℕ) → 2 ≤ a → a ≤ b → a * b ≡ n → (a < n) × (b < n)
product_smaller a b n l m e =
    let p = mul-le-mul_left a m in
    let q : 2 * b ≤ a * b = mul-le-mul l (omega arith) in
    let r : 2 * a ≤ a * a = mul-le-mul l (omega arith) in
    (omega arith, omega arith)

parker_smaller : (m n : ℕ) → 1 ≤ m → 3 * m + 1 ≡ n → m < n
parker_smaller m n l e = omega arith

record AreSmaller (m t u n : ℕ) : Type 0 where
  pub master : t < n
  pub filled : m < n
  pub wider : m + 1 < n
  pub last : u < n

wilson_smaller : (m t k u n : ℕ) → 2 ≤ m → 2 ≤ k → k ≤ t → u ≤ t → 1 ≤ u → m * t + u ≤ n → AreSmaller m t u n
wilson_smaller m t k u n l2 lk lt hu lu e =
    let p : m * 2 ≤ m * t = mul-le-mul_left m (omega arith) in
    let q : 2 * t ≤ m * t = mul-le-mul l2 (omega arith) in
    record { master = omega arith; filled = omega arith; wider = omega arith; last = omega arith }

pub td_grounded : (k n : ℕ) (r : Rule) → IsGrounded (title r).parameters n (td_terms k n r)
unfolding td_terms rank
td_grounded k n TdOne = λ c bounds. record { last = refl; few = omega arith; smaller = tt }
td_grounded k n Cyclic = λ c bounds. record { last = refl; few = omega arith; smaller = tt }
td_grounded k n Field = λ c bounds. record { last = refl; few = omega arith; smaller = tt }
td_grounded k n Product = λ a b c bounds.
    let tests = three_tests c in
    let f = product_smaller a b n (leb-true _ _ tests.1) (leb-true _ _ tests.2) (eqb-true _ _ tests.0) in
    record { last = refl; few = omega arith; smaller = (f.0, (f.1, tt)) }
td_grounded k n Parker = λ m c bounds.
    let few : 1 ≤ PREMISES_MAX = omega arith in
    let tests = three_tests c in
    record { last = refl; few = few; smaller = (parker_smaller m n (leb-true _ _ tests.2) (eqb-true _ _ tests.1), tt) }
td_grounded k n Wilson1 = λ m t u c bounds.
    let tests = five_tests c in
    let e : m * t + u ≡ n = eqb-true _ _ tests.0 in
    let f = wilson_smaller m t k u n (leb-true _ _ tests.1) (td_bounds k m bounds.1.0).groups (leb-true _ _ tests.2) (leb-true _ _ tests.4) (leb-true _ _ tests.3) (omega arith) in
    record { last = refl; few = omega arith; smaller = (f.master, (f.filled, (f.wider, (f.last, tt)))) }
td_grounded k n Wilson2 = λ m t u w c bounds.
    let tests = seven_tests c in
    let e : m * t + u + w ≡ n = eqb-true _ _ tests.0 in
    let few : 2 ≤ m = leb-true _ _ tests.1 in
    let above : k + 1 ≤ t = leb-true _ _ tests.3 in
    let some : 1 ≤ w = leb-true _ _ tests.4 in
    let smaller : w ≤ u = leb-true _ _ tests.5 in
    let groups : 2 ≤ k = (td_bounds k m bounds.1.0).groups in
    let f = wilson_smaller m t k u n few groups (omega arith) (leb-true _ _ tests.6) (omega arith) (omega arith) in
    let p : 2 * t ≤ m * t = mul-le-mul few (omega arith) in
    let q : m * 2 ≤ m * t = mul-le-mul_left m (omega arith) in
    record { last = refl; few = omega arith; smaller = (f.master, (f.filled, (f.wider, (omega arith, (f.last, (omega arith, tt)))))) }
td_grounded k n r = λ c. cc
