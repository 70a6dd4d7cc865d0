-- How sums, products and shifts of large elements follow from those of smaller ones.
use Rattle.std.proofs.Common.{◌≡◌, ◌≢◌, ℕ, ◌+◌, ◌*◌, ◌-◌, ◌/◌, ◌%◌, ◌^◌, ◌<◌, ◌≤◌, suc, zero, List, [], ◌∷◌, ◌++◌, length, arith, ap, refl, sym, ◌∙◌, subst}
use Rattle.std.proofs.Math.Path.{ap₂}
use Rattle.std.proofs.Math.Nat.{add-mod, zero-mod, mod-lt, mod-eq_of_lt, mod-add-div, div-eq_of_lt, add-mul-mod_self_left, add-mul-div_left, mul-mod_right, mul-div_right, div-lt_iff_lt-mul, pow-suc, pow-zero}
use Rattle.std.proofs.lemmas.Nat.{mul-mod}
use Rattle.std.proofs.lemmas.List.{append-nil}
use Rattle.design_base.specs.Polynomials.{add, scale, pushed, top, shift}
use Rattle.design_base.specs.Digits.{reduce, sum_of, product_of, digits, number, plus, times}
use Rattle.design_base.specs.Rings.{IsCommutativeRing}
use Rattle.field_tables.proofs.Linear.{add_comm, add_assoc, add-scale, length-scale}
use Rattle.field_tables.proofs.Multiply.{length-shift, shift-padded, add-zeros}
use Rattle.field_tables.proofs.Modular.{reduce-reduce, length-reduce, reduce-zeros, add_like, length-product}
use Rattle.field_tables.proofs.Numbers.{length-digits, digits_below, reduce_below, number-digits}
use Rattle.field_tables.proofs.Digits.{ring, back, reduced_product, size_D}
use Rattle.field_tables.proofs.AnyField.{mul-zero, distribute_right}

module _ (p : ℕ) (two : 2 ≤ p) where
  -- p is not 0
  positive : 0 < p
  positive = omega arith

  -- without its lowest digit a number is shorter
  pub rest_below : (e x : ℕ) → x < p ^ suc e → x / p < p ^ e
  rest_below e x h = (div-lt_iff_lt-mul positive).1 (subst (λ t. x < t) (pow-suc p e) h)

  -- the lowest digit of a multiple of p, and the rest
  lowest_same : (u w : ℕ) → (u + p * w) % p ≡ u % p
  lowest_same u w = add-mul-mod_self_left u p w

  rest_more : (u w : ℕ) → (u + p * w) / p ≡ u / p + w
  rest_more u w = add-mul-div_left u w positive

  -- the highest digit of a short number is 0
  pub digits-wider : (e x : ℕ) → x < p ^ e → digits p (suc e) x ≡ digits p e x ++ (0 ∷ [])
  digits-wider zero x h =
      let none : x ≡ 0 = omega (arith, pow-zero p) in
      ap (λ t. t % p ∷ []) none ∙ ap (λ t. t ∷ []) (zero-mod p)
  digits-wider (suc e) x h = ap (λ t. x % p ∷ t) (digits-wider e (x / p) (rest_below e x h))

  pub plus-wider : (e x y : ℕ) → x < p ^ e → y < p ^ e → plus p (suc e) x y ≡ plus p e x y
  plus-wider zero x y hx hy =
      let none : x ≡ 0 = omega (arith, pow-zero p) in
      let nor : y ≡ 0 = omega (arith, pow-zero p) in
      ap₂ (λ s t. (s % p + t % p) % p + p * 0) none nor ∙ ap (λ t. (t + t) % p + p * 0) (zero-mod p) ∙ ap (λ t. t + p * 0) (zero-mod p) ∙ omega arith
  plus-wider (suc e) x y hx hy = ap (λ t. (x % p + y % p) % p + p * t) (plus-wider e (x / p) (y / p) (rest_below e x hx) (rest_below e y hy))

  pub plus-zero : (e x : ℕ) → x < p ^ e → plus p e x 0 ≡ x
  plus-zero zero x h = omega (arith, pow-zero p)
  plus-zero (suc e) x h =
      ap₂ (λ s t. (x % p + s) % p + p * plus p e (x / p) t) (zero-mod p) (div-eq_of_lt positive)
      ∙ ap₂ (λ s t. s + p * t) (ap (λ t. t % p) (let f : x % p + 0 ≡ x % p = omega arith in f) ∙ mod-eq_of_lt (mod-lt x positive)) (plus-zero e (x / p) (rest_below e x h))
      ∙ mod-add-div x p

  -- a number is 1 more than the one before it, also as an element, unless its lowest digit is 0
  pub plus_next : (e x : ℕ) → x < p ^ suc e → x % p ≢ 0 → plus p (suc e) (x - 1) 1 ≡ x
  plus_next e x h ne =
      let r = x % p in
      let low : r < p = mod-lt x positive in
      let before : x - 1 ≡ (r - 1) + p * (x / p) = omega (arith, mod-add-div x p) in
      let first : (x - 1) % p ≡ r - 1 = ap (λ t. t % p) before ∙ lowest_same (r - 1) (x / p) ∙ mod-eq_of_lt (omega arith) in
      let others : (x - 1) / p ≡ x / p = ap (λ t. t / p) before ∙ rest_more (r - 1) (x / p) ∙ ap (λ t. t + x / p) (div-eq_of_lt (omega arith)) ∙ omega arith in
      ap₂ (λ s t. (s + t) % p + p * plus p e ((x - 1) / p) (1 / p)) first (mod-eq_of_lt two)
      ∙ ap₂ (λ s t. s + p * t)
      (ap (λ t. t % p) (let f : r - 1 + 1 ≡ r = omega arith in f) ∙ mod-eq_of_lt low)
      (ap₂ (plus p e) others (div-eq_of_lt two) ∙ plus-zero e (x / p) (rest_below e x h))
      ∙ mod-add-div x p

  -- one more at the highest digit
  pushed-raised : (e a u : ℕ) → u + p ^ e < p ^ suc e → pushed a (digits p (suc e) (u + p ^ e)) ≡ pushed a (digits p (suc e) u)
  pushed-raised zero a u h = refl
  pushed-raised (suc e) a u h =
      let split : u + p ^ suc e ≡ u + p * p ^ e = omega (arith, pow-suc p e) in
      let below : u / p + p ^ e < p ^ suc e = subst (λ t. t < p ^ suc e) (ap (λ t. t / p) split ∙ rest_more u (p ^ e)) (rest_below (suc e) (u + p ^ suc e) h) in
      ap (λ t. a ∷ pushed (t % p) (digits p (suc e) (t / p))) split
      ∙ ap₂ (λ s t. a ∷ pushed s (digits p (suc e) t)) (lowest_same u (p ^ e)) (rest_more u (p ^ e))
      ∙ ap (λ t. a ∷ t) (pushed-raised e (u % p) (u / p) below)

  top-raised : (e a u : ℕ) → u + p ^ e < p ^ suc e → top a (digits p (suc e) (u + p ^ e)) ≡ top a (digits p (suc e) u) + 1
  top-raised zero a u h =
      let next : u + p ^ 0 ≡ u + 1 = omega (arith, pow-zero p) in
      let room : u + 1 < p = omega (arith, pow-zero p, pow-suc p 0, ap (λ t. t * p) (pow-zero p)) in
      ap (λ t. t % p) next ∙ mod-eq_of_lt room ∙ ap (λ t. t + 1) (sym (mod-eq_of_lt (omega arith)))
  top-raised (suc e) a u h =
      let split : u + p ^ suc e ≡ u + p * p ^ e = omega (arith, pow-suc p e) in
      let below : u / p + p ^ e < p ^ suc e = subst (λ t. t < p ^ suc e) (ap (λ t. t / p) split ∙ rest_more u (p ^ e)) (rest_below (suc e) (u + p ^ suc e) h) in
      ap (λ t. top (t % p) (digits p (suc e) (t / p))) split
      ∙ ap₂ (λ s t. top s (digits p (suc e) t)) (lowest_same u (p ^ e)) (rest_more u (p ^ e))
      ∙ top-raised e (u % p) (u / p) below

  -- once a polynomial
  scale-one : (x : List ℕ) → scale 1 x ≡ x
  scale-one [] = refl
  scale-one (x ∷ xs) = ap₂ ◌∷◌ (let f : 1 * x ≡ x = omega arith in f) (scale-one xs)

  -- a prime order computes with remainders
  pub plus_prime : (x y : ℕ) → plus p 1 x y ≡ (x + y) % p
  plus_prime x y = ap (λ t. t + p * 0) (sym (add-mod x y p)) ∙ omega arith

  pub times_prime : (c x y : ℕ) → times p 1 (c ∷ []) x y ≡ x * y % p
  times_prime c x y =
      ap (λ t. t % p + p * 0) (let f : x % p * (y % p) + 0 * ((0 + y % p * c) % p) ≡ x % p * (y % p) = omega arith in f)
      ∙ ap (λ t. t + p * 0) (sym (mul-mod x y p)) ∙ omega arith

  module _ (e : ℕ) (n : List ℕ) (size : length n ≡ suc e) where
    -- x times the element y
    abbrev pub shifted : ℕ → ℕ
    shifted y = number p (reduce p (shift n (digits p (suc e) y)))

    pub shifted_low : (y : ℕ) → y < p ^ e → shifted y ≡ p * y
    shifted_low y h =
        let long : length (digits p e y) + 1 ≡ suc e = omega (arith, length-digits p positive e y) in
        ap (λ t. number p (reduce p t)) (ap (shift n) (digits-wider e y h) ∙ shift-padded n e size 0 (digits p e y) long ∙ ap (λ t. 0 ∷ t) (append-nil (digits p e y)))
        ∙ ap₂ (λ s t. s + p * t) (zero-mod p) (ap (number p) (reduce_below p positive (digits p e y) (digits_below p positive e y)) ∙ number-digits p positive e y h)
        ∙ omega arith

    -- one more at the highest digit brings n in once more
    shift_raised : (u : ℕ) → u + p ^ e < p ^ suc e → shift n (digits p (suc e) (u + p ^ e)) ≡ add (shift n (digits p (suc e) u)) n
    shift_raised u h =
        let D = digits p (suc e) u in
        ap₂ (λ s t. add s (scale t n)) (pushed-raised e 0 u h) (top-raised e 0 u h)
        ∙ ap (add (pushed 0 D)) (add-scale (top 0 D) 1 n ∙ ap (add (scale (top 0 D) n)) (scale-one n))
        ∙ sym (add_assoc (pushed 0 D) (scale (top 0 D) n) n)

    length_shift : (y : ℕ) → length (shift n (digits p (suc e) y)) ≡ length n
    length_shift y = length-shift n (digits p (suc e) y) (size_D p e n two size y)

    pub shifted_high : (u : ℕ) → u + p ^ e < p ^ suc e → shifted (u + p ^ e) ≡ plus p (suc e) (shifted u) (number p (reduce p n))
    shifted_high u h =
        let A = shift n (digits p (suc e) u) in
        ap (λ t. number p (reduce p t)) (shift_raised u h)
        ∙ ap (number p) (add_like p A (reduce p A) n (reduce p n) (sym (reduce-reduce p A)) (sym (reduce-reduce p n)))
        ∙ sym (ap₂ (λ s t. number p (sum_of p s t))
        (back p e n two size (reduce p A) (length-reduce p A ∙ length_shift u) (reduce-reduce p A))
        (back p e n two size (reduce p n) (length-reduce p n) (reduce-reduce p n)))

    -- the sums and products make a ring
    abbrev pub R : IsCommutativeRing (p ^ suc e) (plus p (suc e)) (times p (suc e) n)
    R = ring p e n two size

    -- a product by 0
    pub times_zero : (y : ℕ) → times p (suc e) n 0 y ≡ 0
    times_zero y = R.products_commute 0 y ∙ mul-zero (p ^ suc e) (plus p (suc e)) (times p (suc e) n) R y

    -- a product by an element that is 1 more than another
    pub times_next : (x y : ℕ) → x < p ^ suc e → y < p ^ suc e → x % p ≢ 0 → times p (suc e) n x y ≡ plus p (suc e) (times p (suc e) n (x - 1) y) y
    times_next x y hx hy ne =
        ap (λ t. times p (suc e) n t y) (sym (plus_next e x hx ne))
        ∙ distribute_right (p ^ suc e) (plus p (suc e)) (times p (suc e) n) R (x - 1) 1 y
        ∙ ap (plus p (suc e) (times p (suc e) n (x - 1) y)) (R.products_commute 1 y ∙ R.one_neutral y hy)

    -- a highest coefficient 0 of the first factor does nothing
    product-padded : (x y : List ℕ) → length y ≡ length n → product_of p n (x ++ (0 ∷ [])) y ≡ product_of p n x y
    product-padded [] y h =
        let Y = reduce p (shift n y) in
        ap (reduce p) (add-zeros (scale 0 y) Y (length-scale 0 y ∙ h ∙ sym (length-reduce p (shift n y) ∙ length-shift n y h)))
        ∙ sym (reduce-zeros p n y)
    product-padded (a ∷ x) y h = ap (λ t. reduce p (add (scale a y) t)) (product-padded x (reduce p (shift n y)) (length-reduce p (shift n y) ∙ length-shift n y h))

    -- a lowest coefficient 0 of the first factor shifts the second
    product-zero_first : (x y : List ℕ) → length y ≡ length n → product_of p n (0 ∷ x) y ≡ product_of p n x (reduce p (shift n y))
    product-zero_first x y h =
        let Y = reduce p (shift n y) in
        let long : length Y ≡ length n = length-reduce p (shift n y) ∙ length-shift n y h in
        let P = product_of p n x Y in
        ap (reduce p) (add_comm (scale 0 y) P ∙ add-zeros P y (length-product p n e size x Y long ∙ sym h)) ∙ reduced_product p e n two size x Y

    -- a product by a multiple of p
    pub times_shifted : (z y : ℕ) → z < p ^ e → times p (suc e) n (p * z) y ≡ times p (suc e) n z (shifted y)
    times_shifted z y h =
        let Y = digits p (suc e) y in
        let S = reduce p (shift n Y) in
        let long : length S ≡ length n = length-reduce p (shift n Y) ∙ length_shift y in
        ap (λ t. number p (product_of p n t Y)) (ap₂ (λ s t. s ∷ digits p e t) (mul-mod_right p z) (mul-div_right z positive))
        ∙ ap (number p) (product-zero_first (digits p e z) Y (size_D p e n two size y) ∙ sym (product-padded (digits p e z) S long))
        ∙ sym (ap₂ (λ s t. number p (product_of p n s t)) (digits-wider e z h) (back p e n two size S long (reduce-reduce p (shift n Y))))
