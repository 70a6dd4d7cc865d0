-- Sums and products modulo p: each step may be reduced, or only the result.
use Rattle.std.proofs.Common.{◌≡◌, ℕ, ◌*◌, ◌%◌, suc, List, [], ◌∷◌, length, arith, ap, refl, sym, ◌∙◌}
use Rattle.std.proofs.Math.Path.{ap₂}
use Rattle.std.proofs.Math.Nat.{add-mod, mod-mod, zero-mod}
use Rattle.std.proofs.lemmas.Nat.{mul-mod_first, mul-mod_second}
use Rattle.design_base.specs.Polynomials.{add, scale, pushed, top, shift, mul}
use Rattle.design_base.specs.Digits.{reduce, sum_of, product_of}
use Rattle.field_tables.proofs.Linear.{add_comm, add_assoc}
use Rattle.field_tables.proofs.Multiply.{one, length-mul, mul_comm, mul_assoc, mul-add, mul-one}

module _ (p : ℕ) where
  -- reducing
  pub reduce-reduce : (x : List ℕ) → reduce p (reduce p x) ≡ reduce p x
  reduce-reduce [] = refl
  reduce-reduce (x ∷ xs) = ap₂ ◌∷◌ (mod-mod x p) (reduce-reduce xs)

  pub length-reduce : (x : List ℕ) → length (reduce p x) ≡ length x
  length-reduce [] = refl
  length-reduce (x ∷ xs) = ap suc (length-reduce xs)

  -- reducing first makes no difference
  reduce-add : (x y : List ℕ) → reduce p (add x y) ≡ reduce p (add (reduce p x) (reduce p y))
  reduce-add [] y = refl
  reduce-add (x ∷ xs) [] = refl
  reduce-add (x ∷ xs) (y ∷ ys) = ap₂ ◌∷◌ (add-mod x y p) (reduce-add xs ys)

  reduce-scale : (c : ℕ) (x : List ℕ) → reduce p (scale c x) ≡ reduce p (scale c (reduce p x))
  reduce-scale c [] = refl
  reduce-scale c (x ∷ xs) = ap₂ ◌∷◌ (sym (mul-mod_second c x p)) (reduce-scale c xs)

  reduce-factor : (c : ℕ) (x : List ℕ) → reduce p (scale (c % p) x) ≡ reduce p (scale c x)
  reduce-factor c [] = refl
  reduce-factor c (x ∷ xs) = ap₂ ◌∷◌ (mul-mod_first c x p) (reduce-factor c xs)

  pub pushed-reduce : (a : ℕ) (x : List ℕ) → pushed (a % p) (reduce p x) ≡ reduce p (pushed a x)
  pushed-reduce a [] = refl
  pushed-reduce a (x ∷ xs) = ap (λ t. a % p ∷ t) (pushed-reduce x xs)

  top-reduce : (a : ℕ) (x : List ℕ) → top (a % p) (reduce p x) ≡ top a x % p
  top-reduce a [] = refl
  top-reduce a (x ∷ xs) = top-reduce x xs

  -- two lists are alike if they reduce to one
  abbrev pub IsLike : List ℕ → List ℕ → Type 0
  IsLike x y = reduce p x ≡ reduce p y

  -- the operations respect it
  pub add_like : (a b c d : List ℕ) → IsLike a b → IsLike c d → IsLike (add a c) (add b d)
  add_like a b c d e f = reduce-add a c ∙ ap₂ (λ s t. reduce p (add s t)) e f ∙ sym (reduce-add b d)

  scale_like : (c : ℕ) (x y : List ℕ) → IsLike x y → IsLike (scale c x) (scale c y)
  scale_like c x y e = reduce-scale c x ∙ ap (λ t. reduce p (scale c t)) e ∙ sym (reduce-scale c y)

  module _ (n : List ℕ) where
    shift-reduce : (y : List ℕ) → IsLike (shift n (reduce p y)) (shift n y)
    shift-reduce y =
        let pushed_part : pushed 0 (reduce p y) ≡ reduce p (pushed 0 y) = ap (λ t. pushed t (reduce p y)) (sym (zero-mod p)) ∙ pushed-reduce 0 y in
        let top_part : top 0 (reduce p y) ≡ top 0 y % p = ap (λ t. top t (reduce p y)) (sym (zero-mod p)) ∙ top-reduce 0 y in
        add_like (pushed 0 (reduce p y)) (pushed 0 y) (scale (top 0 (reduce p y)) n) (scale (top 0 y) n)
        (ap (reduce p) pushed_part ∙ reduce-reduce (pushed 0 y))
        (ap (λ t. reduce p (scale t n)) top_part ∙ reduce-factor (top 0 y) n)

    shift_like : (x y : List ℕ) → IsLike x y → IsLike (shift n x) (shift n y)
    shift_like x y e = sym (shift-reduce x) ∙ ap (λ t. reduce p (shift n t)) e ∙ shift-reduce y

    pub mul_like : (x y z : List ℕ) → IsLike y z → IsLike (mul n x y) (mul n x z)
    mul_like [] y z e = scale_like 0 y z e
    mul_like (a ∷ x) y z e = add_like (scale a y) (scale a z) (mul n x (shift n y)) (mul n x (shift n z))
        (scale_like a y z e) (mul_like x (shift n y) (shift n z) (shift_like y z e))

    pub reduce-zeros : (y : List ℕ) → scale 0 y ≡ reduce p (scale 0 y)
    reduce-zeros [] = refl
    reduce-zeros (y ∷ ys) = ap₂ ◌∷◌ (let e : 0 * y ≡ 0 = omega arith in e ∙ sym (zero-mod p) ∙ ap (λ t. t % p) (sym e)) (reduce-zeros ys)

    -- the steps may be reduced, or only the result
    pub product_is : (x y : List ℕ) → product_of p n x y ≡ reduce p (mul n x y)
    product_is [] y = reduce-zeros y
    product_is (a ∷ x) y = add_like (scale a y) (scale a y) (product_of p n x (reduce p (shift n y))) (mul n x (shift n y)) refl
        (ap (reduce p) (product_is x (reduce p (shift n y))) ∙ reduce-reduce (mul n x (reduce p (shift n y))) ∙ mul_like x (reduce p (shift n y)) (shift n y) (reduce-reduce (shift n y)))

  -- the laws of a ring, modulo p
  pub sum_comm : (x y : List ℕ) → sum_of p x y ≡ sum_of p y x
  sum_comm x y = ap (reduce p) (add_comm x y)

  pub sum_assoc : (x y z : List ℕ) → sum_of p (sum_of p x y) z ≡ sum_of p x (sum_of p y z)
  sum_assoc x y z = add_like (reduce p (add x y)) (add x y) z z (reduce-reduce (add x y)) refl
      ∙ ap (reduce p) (add_assoc x y z)
      ∙ add_like x x (add y z) (reduce p (add y z)) refl (sym (reduce-reduce (add y z)))

  module _ (n : List ℕ) (e : ℕ) (size : length n ≡ suc e) where
    pub product_comm : (x y : List ℕ) → length x ≡ length n → length y ≡ length n → product_of p n x y ≡ product_of p n y x
    product_comm x y hx hy = product_is n x y ∙ ap (reduce p) (mul_comm n e size x y hx hy) ∙ sym (product_is n y x)

    pub length-product : (x y : List ℕ) → length y ≡ length n → length (product_of p n x y) ≡ length n
    length-product x y hy = ap length (product_is n x y) ∙ length-reduce (mul n x y) ∙ length-mul n x y hy

    -- a product whose second factor is a product, and one whose second factor is a sum
    product-product : (x y z : List ℕ) → product_of p n x (product_of p n y z) ≡ reduce p (mul n x (mul n y z))
    product-product x y z = product_is n x (product_of p n y z) ∙ mul_like n x (product_of p n y z) (mul n y z) (ap (reduce p) (product_is n y z) ∙ reduce-reduce (mul n y z))

    pub product_assoc : (x y z : List ℕ) → length x ≡ length n → length y ≡ length n → length z ≡ length n →
        product_of p n (product_of p n x y) z ≡ product_of p n x (product_of p n y z)
    product_assoc x y z hx hy hz =
        product_comm (product_of p n x y) z (length-product x y hy) hz
        ∙ product-product z x y
        ∙ ap (reduce p) (mul_comm n e size z (mul n x y) hz (length-mul n x y hy) ∙ mul_assoc n e size x y z hx hy hz)
        ∙ sym (product-product x y z)

    pub product-sum : (x y z : List ℕ) → length y ≡ length n → length z ≡ length n →
        product_of p n x (sum_of p y z) ≡ sum_of p (product_of p n x y) (product_of p n x z)
    product-sum x y z hy hz = product_is n x (sum_of p y z) ∙ mul_like n x (sum_of p y z) (add y z) (reduce-reduce (add y z))
        ∙ ap (reduce p) (mul-add n x y z (hy ∙ sym hz) hz)
        ∙ add_like (mul n x y) (product_of p n x y) (mul n x z) (product_of p n x z)
        (sym (reduce-reduce (mul n x y)) ∙ ap (reduce p) (sym (product_is n x y)))
        (sym (reduce-reduce (mul n x z)) ∙ ap (reduce p) (sym (product_is n x z)))

    pub product-one : (x : List ℕ) → length x ≡ length n → reduce p x ≡ x → product_of p n x (one e) ≡ x
    product-one x hx r = product_is n x (one e) ∙ ap (reduce p) (mul-one n e size x hx) ∙ r
