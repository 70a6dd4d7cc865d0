-- The half-idempotent square of order 2t.
use Rattle.std.proofs.Common.{ap, arith, inl, inr, ℕ, ◌%◌, ◌*◌, ◌+◌, ◌-◌, ◌<◌, ◌∙◌, ◌≡◌}
use Rattle.std.proofs.Math.Nat.{mod-eq_of_lt, mod-lt}
use Rattle.counting.proofs.Booleans.{cases_lt}
use Rattle.std.proofs.lemmas.Bool.Decides.{nat_tests}
use Rattle.counting.proofs.Residues.{add_cancels, add_solves, mod_from_same}
use Rattle.triple_systems.proofs.LatinSquares.{symmetric_from_rows}
use Rattle.triple_systems.specs.Squares.{IsSymmetric, half_idempotent, halve}

halve-below : (t z : ℕ) → z < 2 * t → halve t z < 2 * t
unfolding halve
halve-below t z l = grind (arith, nat_tests)

halve-cancels : (t y z : ℕ) → y < 2 * t → z < 2 * t → halve t y ≡ halve t z → y ≡ z
unfolding halve
halve-cancels t y z l m e = grind (arith, nat_tests)

halve_even : (t w : ℕ) → halve t (2 * w) ≡ w
unfolding halve
halve_even t w = grind (arith, nat_tests)

halve_odd : (t w : ℕ) → halve t (2 * w + 1) ≡ w + t
unfolding halve
halve_odd t w = grind (arith, nat_tests)

halve-solves : (t w : ℕ) → w < 2 * t → (z : ℕ) × (z < 2 * t) × (halve t z ≡ w)
halve-solves t w l = elim (cases_lt w t) [
  | inl a ↦ (2 * w, omega arith, halve_even t w)
  | inr a ↦ (2 * (w - t) + 1, omega arith, halve_odd t (w - t) ∙ omega arith)
]

-- a symmetric Latin square
pub half_idempotent_square : (t : ℕ) → 0 < t → IsSymmetric (2 * t) (half_idempotent t)
unfolding half_idempotent
half_idempotent_square t pos = symmetric_from_rows (2 * t) (half_idempotent t)
    (λ x y l m. halve-below t ((x + y) % (2 * t)) (mod-lt (x + y) (omega arith)))
    (λ x y l m. ap (λ s. halve t (s % (2 * t))) (omega arith))
    (λ x y z k l m e. add_cancels (2 * t) x y z l m (halve-cancels t _ _ (mod-lt (x + y) (omega arith)) (mod-lt (x + z) (omega arith)) e))
    (λ x w k l. let z = halve-solves t w l in let y = add_solves (2 * t) x z.0 k z.1 in (y.0, y.1, ap (halve t) y.2 ∙ z.2))

pub half_idempotent_below : (t x y : ℕ) → 0 < t → half_idempotent t x y < 2 * t
unfolding half_idempotent
half_idempotent_below t x y pos = halve-below t ((x + y) % (2 * t)) (mod-lt (x + y) (omega arith))

-- x and x give x, and so do x + t and x + t, for x below t
pub half_idempotent_low : (t x : ℕ) → x < t → half_idempotent t x x ≡ x
unfolding half_idempotent
half_idempotent_low t x l = ap (halve t) (mod-eq_of_lt (omega arith) ∙ omega arith) ∙ halve_even t x

pub half_idempotent_high : (t x : ℕ) → x < t → half_idempotent t (x + t) (x + t) ≡ x
unfolding half_idempotent
half_idempotent_high t x l = ap (halve t) (mod_from_same (2 * t) (x + t + (x + t)) (2 * x) (record { up = 0; down = 1; equal = omega arith }) ∙ mod-eq_of_lt (omega arith)) ∙ halve_even t x
