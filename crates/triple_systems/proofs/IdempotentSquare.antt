-- The idempotent squares, of each order but 2.
use Rattle.std.proofs.Common.{ap, arith, inl, inr, refl, subst, sym, ℕ, ◌%◌, ◌*◌, ◌+◌, ◌-◌, ◌/◌, ◌<◌, ◌∙◌, ◌≡◌, ◌≢◌}
use Rattle.std.proofs.Math.Nat.{mod-eq_of_lt, mod-lt}
use Rattle.counting.proofs.Booleans.{cases_eq}
use Rattle.std.proofs.lemmas.Bool.Decides.{nat_tests}
use Rattle.counting.proofs.Residues.{add_cancels, add_solves, mod_from_same, same_mod}
use Rattle.triple_systems.proofs.HalfSums.{half_sum-self, half_sum_is, half_sum_square, odd}
use Rattle.triple_systems.proofs.LatinSquares.{latin_same}
use Rattle.triple_systems.proofs.Prolongation.{IsProlonged, prolonged_latin}
use Rattle.triple_systems.specs.Squares.{IsIdempotent, IsLatin, down, half_sum, idempotent, prolonged, up}

-- ---- the half sums of x and x + 1 are each number once
unmoved : (x : ℕ) → x + 0 ≡ x
unmoved x = omega arith

module _ (t : ℕ) (pos : 0 < t) where
  step-half_sum : (x : ℕ) → x < odd t → half_sum (odd t) x (up (odd t) x) ≡ (t + 1 + x) % odd t
  step-half_sum x l =
      let a = same_mod (odd t) (x + 1) in
      let b = same_mod (odd t) (t + 1 + x) in
      half_sum_is t x (up (odd t) x) ((t + 1 + x) % odd t) (mod-lt _ (omega arith)) (record { up = a.up + 1 + 2 * b.down; down = 2 * b.up + a.down; equal = omega (arith, a.equal, b.equal) })

  up_down : (y : ℕ) → y < odd t → up (odd t) (down (odd t) y) ≡ y
  up_down y l = let a = same_mod (odd t) (y + (odd t - 1)) in
      mod_from_same (odd t) (down (odd t) y + 1) y (record { up = a.up; down = a.down + 1; equal = omega (arith, a.equal) }) ∙ mod-eq_of_lt l

  down_up : (x : ℕ) → x < odd t → down (odd t) (up (odd t) x) ≡ x
  down_up x l = let a = same_mod (odd t) (x + 1) in
      mod_from_same (odd t) (up (odd t) x + (odd t - 1)) x (record { up = a.up; down = a.down + 1; equal = omega (arith, a.equal) }) ∙ mod-eq_of_lt l

  up_moves : (x : ℕ) → x < odd t → x ≢ up (odd t) x
  up_moves x l e = absurd (omega (arith, add_cancels (odd t) x 0 1 (omega arith) (omega arith) (ap (λ z. z % odd t) (unmoved x) ∙ mod-eq_of_lt l ∙ e)))

  corner_of : prolonged (odd t) (odd t) (odd t) ≡ odd t
  unfolding prolonged
  corner_of = grind (arith, nat_tests)

  last_row_of : (y : ℕ) → y < odd t → prolonged (odd t) (odd t) y ≡ half_sum (odd t) (down (odd t) y) y
  unfolding prolonged
  last_row_of y l = grind (arith, nat_tests)

  last_column_of : (x : ℕ) → x < odd t → prolonged (odd t) x (odd t) ≡ half_sum (odd t) x (up (odd t) x)
  unfolding prolonged
  last_column_of x l = grind (arith, nat_tests)

  moved_of : (x y : ℕ) → x < odd t → y < odd t → y ≡ up (odd t) x → prolonged (odd t) x y ≡ odd t
  unfolding prolonged
  moved_of x y l m e = grind (arith, nat_tests)

  others_of : (x y : ℕ) → x < odd t → y < odd t → y ≢ up (odd t) x → prolonged (odd t) x y ≡ half_sum (odd t) x y
  unfolding prolonged
  others_of x y l m ne = grind (arith, nat_tests)

  half_sums_prolonged : IsProlonged (odd t) (half_sum (odd t)) (up (odd t)) (down (odd t)) (prolonged (odd t))
  half_sums_prolonged = record {
    latin = (half_sum_square t).latin;
    up_below = λ x l. mod-lt _ (omega arith);
    down_below = λ y l. mod-lt _ (omega arith);
    up_down = up_down;
    down_up = down_up;
    moved_cancels = λ x y l m e. add_cancels (odd t) (t + 1) x y l m (sym (step-half_sum x l) ∙ e ∙ step-half_sum y m);
    moved_solves = λ z l. let w = add_solves (odd t) (t + 1) z (omega arith) l in (w.0, w.1, step-half_sum w.0 w.1 ∙ w.2);
    corner = corner_of;
    last_row = last_row_of;
    last_column = last_column_of;
    moved = λ x l. moved_of x (up (odd t) x) l (mod-lt _ (omega arith)) refl;
    others = others_of;
  }

  prolonged-self : (x : ℕ) → x < odd t + 1 → prolonged (odd t) x x ≡ x
  prolonged-self x l = elim (cases_eq x (odd t)) [
    | inl e ↦ rw e corner_of
    | inr ne ↦ others_of x x (omega arith) (omega arith) (up_moves x (omega arith)) ∙ half_sum-self t x (omega arith)
  ]

-- ---- both kinds of orders
odd_parts : (n : ℕ) → n % 2 ≡ 1 → n ≡ odd (n / 2)
odd_parts n e = omega arith

even_parts : (n : ℕ) → 0 < n → n % 2 ≢ 1 → n ≡ odd (n / 2 - 1) + 1
even_parts n pos e = omega arith

idempotent-odd : (n x y : ℕ) → n % 2 ≡ 1 → idempotent n x y ≡ half_sum n x y
unfolding idempotent
idempotent-odd n x y e = grind (arith, nat_tests)

idempotent-even : (n x y : ℕ) → n % 2 ≢ 1 → idempotent n x y ≡ prolonged (n - 1) x y
unfolding idempotent
idempotent-even n x y e = grind (arith, nat_tests)

odd_latin : (n t : ℕ) → n ≡ odd t → IsLatin n (half_sum n)
odd_latin n t e = rw e (half_sum_square t).latin

even_latin : (n t : ℕ) → 0 < t → n ≡ odd t + 1 → IsLatin n (prolonged (n - 1))
even_latin n t pos e = subst (λ m. IsLatin m (prolonged (m - 1))) (sym e) (latin_same (odd t + 1) (prolonged (odd t)) (prolonged (odd t + 1 - 1)) (λ x y. ap (λ m. prolonged m x y) (omega arith))
    (prolonged_latin (odd t) (half_sum (odd t)) (up (odd t)) (down (odd t)) (prolonged (odd t)) (half_sums_prolonged t pos)))

pub idempotent_latin : (n : ℕ) → 0 < n → n ≢ 2 → IsLatin n (idempotent n)
idempotent_latin n pos ne = elim (cases_eq (n % 2) 1) [
  | inl e ↦ latin_same n (half_sum n) (idempotent n) (λ x y. idempotent-odd n x y e) (odd_latin n (n / 2) (odd_parts n e))
  | inr d ↦ latin_same n (prolonged (n - 1)) (idempotent n) (λ x y. idempotent-even n x y d) (even_latin n (n / 2 - 1) (omega arith) (even_parts n pos d))
]

odd_self : (n t x : ℕ) → n ≡ odd t → x < n → half_sum n x x ≡ x
odd_self n t x e l = ap (λ m. half_sum m x x) e ∙ half_sum-self t x (omega arith)

even_self : (n t x : ℕ) → 0 < t → n - 1 ≡ odd t → x < odd t + 1 → prolonged (n - 1) x x ≡ x
even_self n t x pos e l = ap (λ m. prolonged m x x) e ∙ prolonged-self t pos x l

pub idempotent-self : (n : ℕ) → n ≢ 2 → IsIdempotent n (idempotent n)
idempotent-self n ne x l = elim (cases_eq (n % 2) 1) [
  | inl e ↦ idempotent-odd n x x e ∙ odd_self n (n / 2) x (odd_parts n e) l
  | inr d ↦ idempotent-even n x x d ∙ even_self n (n / 2 - 1) x (omega arith) (omega (arith, even_parts n (omega arith) d)) (omega (arith, even_parts n (omega arith) d))
]

-- the entries of both kinds of orders
pub idempotent_below : (n x y : ℕ) → n ≢ 2 → x < n → y < n → idempotent n x y < n
idempotent_below n x y ne l m = (idempotent_latin n (omega arith) ne).small x y l m

pub prolonged_below : (n x y : ℕ) → n ≢ 2 → n % 2 ≢ 1 → x < n → y < n → prolonged (n - 1) x y < n
prolonged_below n x y ne even l m = rw (← idempotent-even n x y even) (idempotent_below n x y ne l m)
