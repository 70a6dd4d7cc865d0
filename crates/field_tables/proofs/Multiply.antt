-- Products of polynomials where x ^ e is the polynomial n, with no modulus.
use Rattle.std.proofs.Common.{◌≡◌, ℕ, ◌+◌, ◌*◌, suc, zero, List, [], ◌∷◌, ◌++◌, length, arith, ap, refl, sym, ◌∙◌, replicate, length-append}
use Rattle.std.proofs.Math.Path.{ap₂}
use Rattle.std.proofs.Math.Nat.{suc_inj}
use Rattle.std.proofs.lemmas.List.{append-nil, length-replicate}
use Rattle.design_base.specs.Polynomials.{add, scale, pushed, top, shift, mul}
use Rattle.field_tables.proofs.Linear.{add_swap, scale-add, add-scale, scale-scale, length-add, length-scale, length-pushed, pushed-add, top-add, pushed-scale, top-scale}

module _ (n : List ℕ) where
  -- shifts are linear
  pub length-shift : (y : List ℕ) → length y ≡ length n → length (shift n y) ≡ length n
  length-shift y e = length-add (pushed 0 y) (scale (top 0 y) n) (length-pushed 0 y ∙ e ∙ sym (length-scale (top 0 y) n)) ∙ length-pushed 0 y ∙ e

  pub shift-add : (x y : List ℕ) → length x ≡ length y → shift n (add x y) ≡ add (shift n x) (shift n y)
  shift-add x y e = ap₂ (λ s t. add s (scale t n)) (pushed-add 0 0 x y) (top-add 0 0 x y e)
      ∙ ap (add (add (pushed 0 x) (pushed 0 y))) (add-scale (top 0 x) (top 0 y) n)
      ∙ add_swap (pushed 0 x) (pushed 0 y) (scale (top 0 x) n) (scale (top 0 y) n)

  pub shift-scale : (c : ℕ) (y : List ℕ) → shift n (scale c y) ≡ scale c (shift n y)
  shift-scale c y =
      let zero_times : c * 0 ≡ 0 = omega arith in
      ap (λ t. add (pushed t (scale c y)) (scale (top t (scale c y)) n)) (sym zero_times)
      ∙ ap₂ (λ s t. add s (scale t n)) (pushed-scale c 0 y) (top-scale c 0 y)
      ∙ ap (add (scale c (pushed 0 y))) (sym (scale-scale c (top 0 y) n))
      ∙ sym (scale-add c (pushed 0 y) (scale (top 0 y) n))

  -- products are linear in the second factor
  pub length-mul : (x y : List ℕ) → length y ≡ length n → length (mul n x y) ≡ length n
  length-mul [] y e = length-scale 0 y ∙ e
  length-mul (a ∷ x) y e = length-add (scale a y) (mul n x (shift n y)) (length-scale a y ∙ e ∙ sym (length-mul x (shift n y) (length-shift y e))) ∙ length-scale a y ∙ e

  pub mul-scale : (x : List ℕ) (c : ℕ) (y : List ℕ) → mul n x (scale c y) ≡ scale c (mul n x y)
  mul-scale [] c y = scale-scale 0 c y ∙ ap (λ t. scale t y) (let e : 0 * c ≡ c * 0 = omega arith in e) ∙ sym (scale-scale c 0 y)
  mul-scale (a ∷ x) c y =
      ap₂ add (scale-scale a c y ∙ ap (λ t. scale t y) (let e : a * c ≡ c * a = omega arith in e) ∙ sym (scale-scale c a y))
      (ap (mul n x) (shift-scale c y) ∙ mul-scale x c (shift n y))
      ∙ sym (scale-add c (scale a y) (mul n x (shift n y)))

  pub mul-add : (x y z : List ℕ) → length y ≡ length z → length z ≡ length n → mul n x (add y z) ≡ add (mul n x y) (mul n x z)
  mul-add [] y z e f = scale-add 0 y z
  mul-add (a ∷ x) y z e f =
      ap₂ add (scale-add a y z) (ap (mul n x) (shift-add y z e) ∙ mul-add x (shift n y) (shift n z) (length-shift y (e ∙ f) ∙ sym (length-shift z f)) (length-shift z f))
      ∙ add_swap (scale a y) (scale a z) (mul n x (shift n y)) (mul n x (shift n z))

  -- a product with a shifted factor is the shifted product
  pub mul-shift : (x y : List ℕ) → length y ≡ length n → mul n x (shift n y) ≡ shift n (mul n x y)
  mul-shift [] y e = sym (shift-scale 0 y)
  mul-shift (a ∷ x) y e =
      ap₂ add (sym (shift-scale a y)) (mul-shift x (shift n y) (length-shift y e))
      ∙ sym (shift-add (scale a y) (mul n x (shift n y)) (length-scale a y ∙ e ∙ sym (length-mul x (shift n y) (length-shift y e))))

  -- two factors change places
  pub mul_exchange : (x z y : List ℕ) → length y ≡ length n → mul n x (mul n z y) ≡ mul n z (mul n x y)
  mul_exchange x [] y e = mul-scale x 0 y
  mul_exchange x (a ∷ z) y e =
      mul-add x (scale a y) (mul n z (shift n y)) (length-scale a y ∙ e ∙ sym (length-mul z (shift n y) (length-shift y e))) (length-mul z (shift n y) (length-shift y e))
      ∙ ap₂ add (mul-scale x a y) (mul_exchange x z (shift n y) (length-shift y e) ∙ ap (mul n z) (mul-shift x y e))

-- shifts of a list that ends in zeros
top-zeros : (a m : ℕ) (x : List ℕ) → top a (x ++ replicate (suc m) 0) ≡ 0
top-zeros a zero [] = refl
top-zeros a (suc m) [] = top-zeros 0 m []
top-zeros a m (x ∷ xs) = top-zeros x m xs

pushed_zeros : (m : ℕ) → pushed 0 (replicate m 0) ≡ replicate m 0
pushed_zeros zero = refl
pushed_zeros (suc m) = ap (λ t. 0 ∷ t) (pushed_zeros m)

pushed-zeros : (a m : ℕ) (x : List ℕ) → pushed a (x ++ replicate (suc m) 0) ≡ a ∷ (x ++ replicate m 0)
pushed-zeros a m [] = ap (λ t. a ∷ t) (pushed_zeros m)
pushed-zeros a m (x ∷ xs) = ap (λ t. a ∷ t) (pushed-zeros x m xs)

-- zeros add nothing
pub add-zeros : (x y : List ℕ) → length x ≡ length y → add x (scale 0 y) ≡ x
add-zeros [] y e = refl
add-zeros (x ∷ xs) [] e = cc
add-zeros (x ∷ xs) (y ∷ ys) e = ap₂ ◌∷◌ (let f : x + 0 * y ≡ x = omega arith in f) (add-zeros xs ys (suc_inj e))

scale_zeros : (a m : ℕ) → scale a (replicate m 0) ≡ replicate m 0
scale_zeros a zero = refl
scale_zeros a (suc m) = ap₂ ◌∷◌ (let f : a * 0 ≡ 0 = omega arith in f) (scale_zeros a m)

pub zeros-add : (m : ℕ) (x : List ℕ) → length x ≡ m → add (replicate m 0) x ≡ x
zeros-add zero [] e = refl
zeros-add zero (x ∷ xs) e = cc
zeros-add (suc m) [] e = cc
zeros-add (suc m) (x ∷ xs) e = ap₂ ◌∷◌ (let f : 0 + x ≡ x = omega arith in f) (zeros-add m xs (suc_inj e))

-- 1 as a polynomial with e more places
abbrev pub one : ℕ → List ℕ
one e = 1 ∷ replicate e 0

module _ (n : List ℕ) (e : ℕ) (size : length n ≡ suc e) where
  length-one : length (one e) ≡ length n
  length-one = ap suc (length-replicate e 0) ∙ sym size

  -- a shift has nothing that goes out where the highest coefficient is 0
  pub shift-padded : (m : ℕ) (x : List ℕ) → length x + suc m ≡ suc e → shift n (x ++ replicate (suc m) 0) ≡ 0 ∷ (x ++ replicate m 0)
  shift-padded m x h =
      ap₂ (λ s t. add s (scale t n)) (pushed-zeros 0 m x) (top-zeros 0 m x)
      ∙ add-zeros (0 ∷ (x ++ replicate m 0)) n (ap suc (length-append x (replicate m 0)) ∙ (let f : suc (length x + length (replicate m 0)) ≡ length n = omega (arith, h, size, length-replicate {A = ℕ} m 0) in f))

  -- the product with 1 is the list with zeros to its full length
  mul-padded : (x : List ℕ) (m : ℕ) → length x + m ≡ suc e → mul n x (one e) ≡ x ++ replicate m 0
  mul-padded [] m h =
      ap₂ ◌∷◌ (let f : 0 * 1 ≡ 0 = omega arith in f) (scale_zeros 0 e) ∙ ap (λ t. replicate t 0) (let f : suc e ≡ m = omega (arith, h) in f)
  mul-padded (a ∷ x) m h =
      let rest : length x + suc m ≡ suc e = omega (arith, h) in
      ap (add (scale a (one e))) (mul-shift n x (one e) length-one ∙ ap (shift n) (mul-padded x (suc m) rest) ∙ shift-padded m x rest)
      ∙ ap₂ ◌∷◌ (let f : a * 1 + 0 ≡ a = omega arith in f)
      (ap (λ t. add t (x ++ replicate m 0)) (scale_zeros a e) ∙ zeros-add e (x ++ replicate m 0) (length-append x (replicate m 0) ∙ (let f : length x + length (replicate m 0) ≡ e = omega (arith, rest, length-replicate {A = ℕ} m 0) in f)))

  pub mul-one : (x : List ℕ) → length x ≡ length n → mul n x (one e) ≡ x
  mul-one x h = mul-padded x 0 (omega (arith, h, size)) ∙ append-nil x

  -- the laws of a ring
  pub mul_comm : (x y : List ℕ) → length x ≡ length n → length y ≡ length n → mul n x y ≡ mul n y x
  mul_comm x y hx hy = ap (mul n x) (sym (mul-one y hy)) ∙ mul_exchange n x y (one e) length-one ∙ ap (mul n y) (mul-one x hx)

  pub mul_assoc : (x y z : List ℕ) → length x ≡ length n → length y ≡ length n → length z ≡ length n → mul n (mul n x y) z ≡ mul n x (mul n y z)
  mul_assoc x y z hx hy hz =
      mul_comm (mul n x y) z (length-mul n x y hy) hz ∙ mul_exchange n z x y hy ∙ ap (mul n x) (mul_comm z y hz hy)

  pub one-mul : (x : List ℕ) → length x ≡ length n → mul n (one e) x ≡ x
  one-mul x h = mul_comm (one e) x length-one h ∙ mul-one x h
