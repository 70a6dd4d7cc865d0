-- The questions that the residual and the derived design meet are in bounds, where that of the symmetric design is.
use Rattle.std.proofs.Common.{arith, ap, sym, true, ℕ, ◌*◌, ◌+◌, ◌-◌, ◌<◌, ◌∙◌, ◌≡◌, ◌≤◌, inl, inr}
use Rattle.std.proofs.Math.Nat.{mul-le-mul_left}
use Rattle.std.proofs.lemmas.Bool.Decides.{nat_tests}
use Rattle.counting.proofs.Booleans.{cases_lt}
use Rattle.design_base.proofs.Bounds.{bibd_numbers}
use Rattle.design_base.specs.Limits.{in_bounds}
use Rattle.design_base.specs.declared.limits.TheConstants.{COVER_MAX, POINTS_MAX}
use Rattle.design_base.specs.declared.query.Query.TheVariants.{Bibd}
use Rattle.symmetric.specs.Symmetric.{AreSymmetric}

bibd_bounds : (v k l : ℕ) → 2 ≤ k → k ≤ v → v ≤ POINTS_MAX → 1 ≤ l → l ≤ COVER_MAX → in_bounds (Bibd v k l) ≡ true
unfolding in_bounds
bibd_bounds v k l two within points some few = grind (arith, nat_tests)

-- two blocks do not meet in all points of one
meet_few : (v k l : ℕ) → AreSymmetric v k l → l < k
meet_few v k l s = elim (cases_lt l k) [
  | inl m ↦ m
  | inr m ↦ absurd (let more = s.less in let some = s.two in omega (
    arith,
    s.equation,
    mul-le-mul_left l (let h : k ≤ v - 1 = omega arith in h),
    mul-le-mul_left k m,
    ap (λ n. k * n) (let e : k - 1 + 1 ≡ k = omega arith in e),
  ))
]

-- with k = l + d, v = w + 1 and k = j + 1: a block has no more points than there are outside another
outside_many : (l d w j : ℕ) → l * w ≡ (l + d) * j → j + 1 ≡ l + d → 1 ≤ l → 1 ≤ d → l + d + d ≤ w + 1
outside_many l d w j equation e some apart = elim (cases_lt (w + 1) (l + d + d)) [
  | inl h ↦ absurd (omega (
    arith,
    equation,
    mul-le-mul_left l (let g : w + 2 ≤ l + d + d = omega arith in g),
    ap (λ n. (l + d) * n) e,
    mul-le-mul_left d apart,
  ))
  | inr h ↦ h
]

module _ (v k l : ℕ) (s : AreSymmetric v k l) (bounds : in_bounds (Bibd v k l) ≡ true) where
  pub derived_bounds : 2 ≤ l → in_bounds (Bibd k l (l - 1)) ≡ true
  derived_bounds two = let n = bibd_numbers v k l bounds in let m = meet_few v k l s in
      bibd_bounds k l (l - 1) two (omega arith) (omega (arith, n.1, n.2)) (omega arith) (omega (arith, n.4))

  pub residual_bounds : 2 ≤ k - l → in_bounds (Bibd (v - k) (k - l) l) ≡ true
  residual_bounds two = let n = bibd_numbers v k l bounds in
      bibd_bounds (v - k) (k - l) l two (omega (arith, many, s.less)) (omega (arith, n.2)) s.some n.4
    where
      many : k + (k - l) ≤ v
      many =
          let d : l + (k - l) ≡ k = omega arith in
          let w : v - 1 + 1 ≡ v = (let h = s.less in omega arith) in
          let j : k - 1 + 1 ≡ k = omega arith in
          omega (arith, d, w, outside_many l (k - l) (v - 1) (k - 1) (s.equation ∙ ap (λ n. n * (k - 1)) (sym d)) (j ∙ sym d) s.some (omega arith))
