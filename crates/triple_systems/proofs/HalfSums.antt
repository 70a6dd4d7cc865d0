-- The half sums modulo an odd number.
use Rattle.std.proofs.Common.{ap, arith, ℕ, ◌%◌, ◌*◌, ◌+◌, ◌-◌, ◌/◌, ◌<◌, ◌∙◌, ◌≡◌}
use Rattle.std.proofs.Math.Nat.{mod-eq_of_lt, mod-lt}
use Rattle.counting.proofs.Residues.{Same, equal_from_same, mod_from_same, same_from_mod, same_mod}
use Rattle.triple_systems.proofs.LatinSquares.{symmetric_from_rows}
use Rattle.triple_systems.specs.Squares.{IsSymmetric, half_sum}

abbrev pub odd : ℕ → ℕ
odd t = 2 * t + 1

-- the half sum by t
half_sum-odd : (t x y : ℕ) → half_sum (odd t) x y ≡ (t + 1) * (x + y) % odd t
unfolding half_sum
half_sum-odd t x y = ap (λ h. h * (x + y) % odd t) (halves t)
  where
    halves : (t : ℕ) → (2 * t + 1 + 1) / 2 ≡ t + 1
    halves t = omega arith

half_sum-below : (t x y : ℕ) → half_sum (odd t) x y < odd t
unfolding half_sum
half_sum-below t x y = mod-lt _ (omega arith)

half_sum-turn : (n x y : ℕ) → half_sum n x y ≡ half_sum n y x
unfolding half_sum
half_sum-turn n x y = ap (λ s. (n + 1) / 2 * s % n) (omega arith)

-- a number whose double is the sum is the half sum
pub half_sum_is : (t x y z : ℕ) → z < odd t → Same (odd t) (x + y) (2 * z) → half_sum (odd t) x y ≡ z
half_sum_is t x y z l s = half_sum-odd t x y
    ∙ mod_from_same (odd t) ((t + 1) * (x + y)) z (record { up = (t + 1) * s.up; down = z + (t + 1) * s.down; equal = omega (arith, ap (λ k. (t + 1) * k) s.equal) })
    ∙ mod-eq_of_lt l

-- the half sum of a number and itself
pub half_sum-self : (t x : ℕ) → x < odd t → half_sum (odd t) x x ≡ x
half_sum-self t x l = half_sum_is t x x x l (record { up = 0; down = 0; equal = omega arith })

half_sum-cancels : (t x y z : ℕ) → y < odd t → z < odd t → half_sum (odd t) x y ≡ half_sum (odd t) x z → y ≡ z
half_sum-cancels t x y z l m e =
    let s = same_from_mod (odd t) ((t + 1) * (x + y)) ((t + 1) * (x + z)) (rw (half_sum-odd t x y, half_sum-odd t x z) at e) in
    equal_from_same (odd t) y z l m (record { up = x + y + 2 * s.up; down = x + z + 2 * s.down; equal = omega (arith, s.equal) })

half_sum-solves : (t x z : ℕ) → x < odd t → z < odd t → (y : ℕ) × (y < odd t) × (half_sum (odd t) x y ≡ z)
half_sum-solves t x z l m =
    let s = same_mod (odd t) (2 * z + (odd t - x)) in (
      (2 * z + (odd t - x)) % odd t,
      mod-lt _ (omega arith),
      half_sum_is t x ((2 * z + (odd t - x)) % odd t) z m (record { up = s.up; down = s.down + 1; equal = omega (arith, s.equal) }),
    )

-- the half sums are a symmetric Latin square
pub half_sum_square : (t : ℕ) → IsSymmetric (odd t) (half_sum (odd t))
half_sum_square t = symmetric_from_rows (odd t) (half_sum (odd t))
    (λ x y l m. half_sum-below t x y)
    (λ x y l m. half_sum-turn (odd t) x y)
    (λ x y z k l m. half_sum-cancels t x y z l m)
    (half_sum-solves t)
