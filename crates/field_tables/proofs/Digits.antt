-- The numbers below p ^ e make a commutative ring under each polynomial of degree e.
use Rattle.std.proofs.Common.{◌≡◌, ℕ, ◌+◌, ◌*◌, ◌-◌, ◌%◌, ◌^◌, ◌<◌, ◌≤◌, suc, zero, List, [], ◌∷◌, length, arith, ap, refl, sym, ◌∙◌, replicate, subst}
use Rattle.std.specs.List.{AllByRecursion}
use Rattle.std.proofs.Math.Path.{ap₂}
use Rattle.std.proofs.Math.Nat.{mod_self, mod-mod, zero-mod, add-mod-mod, mod-eq_of_lt, pow-suc, mul-le-mul_right, one-le-pow}
use Rattle.std.proofs.lemmas.List.{length-replicate}
use Rattle.design_base.specs.Polynomials.{add, mul}
use Rattle.design_base.specs.Digits.{reduce, sum_of, product_of, digits, number, plus, times}
use Rattle.design_base.specs.Rings.{IsCommutativeRing}
use Rattle.field_tables.proofs.Linear.{length-add, add_comm}
use Rattle.field_tables.proofs.Multiply.{one, zeros-add}
use Rattle.field_tables.proofs.Modular.{reduce-reduce, length-reduce, product_is, sum_comm, sum_assoc, product_comm, length-product, product_assoc, product-sum, product-one}
use Rattle.field_tables.proofs.Numbers.{length-digits, digits_below, reduce_below, below-reduce, number-digits, digits-number, number_below, number-zeros}

-- what each digit lacks to p
opposite : ℕ → List ℕ → List ℕ
opposite p [] = []
opposite p (x ∷ xs) = (p - x) % p ∷ opposite p xs

length-opposite : (p : ℕ) (x : List ℕ) → length (opposite p x) ≡ length x
unfolding opposite
length-opposite p [] = refl
length-opposite p (x ∷ xs) = ap suc (length-opposite p xs)

reduce-opposite : (p : ℕ) (x : List ℕ) → reduce p (opposite p x) ≡ opposite p x
unfolding opposite
reduce-opposite p [] = refl
reduce-opposite p (x ∷ xs) = ap₂ ◌∷◌ (mod-mod (p - x) p) (reduce-opposite p xs)

sum-opposite : (p : ℕ) (x : List ℕ) → AllByRecursion (λ d. d < p) x → sum_of p x (opposite p x) ≡ replicate (length x) 0
unfolding opposite
sum-opposite p [] h = refl
sum-opposite p (x ∷ xs) h = ap₂ ◌∷◌
    (add-mod-mod x (p - x) p ∙ ap (λ t. t % p) (let small : x < p = h.0 in let e : x + (p - x) ≡ p = omega arith in e) ∙ mod_self p)
    (sum-opposite p xs h.1)

module _ (p e : ℕ) (n : List ℕ) (two : 2 ≤ p) (size : length n ≡ suc e) where
  positive : 0 < p
  positive = omega arith

  -- the digits of a number
  abbrev D : ℕ → List ℕ
  D x = digits p (suc e) x

  pub size_D : (x : ℕ) → length (D x) ≡ length n
  size_D x = length-digits p positive (suc e) x ∙ sym size

  reduced_D : (x : ℕ) → reduce p (D x) ≡ D x
  reduced_D x = reduce_below p positive (D x) (digits_below p positive (suc e) x)

  -- the digits of a reduced list's number are the list
  pub back : (x : List ℕ) → length x ≡ length n → reduce p x ≡ x → D (number p x) ≡ x
  back x h r =
      ap (λ t. digits p t (number p x)) (sym (h ∙ size)) ∙ digits-number p positive x (subst (AllByRecursion (λ d. d < p)) r (below-reduce p positive x))

  number_small : (x : List ℕ) → length x ≡ length n → reduce p x ≡ x → number p x < p ^ suc e
  number_small x h r = subst (λ t. number p x < p ^ t) (h ∙ size) (number_below p positive x (subst (AllByRecursion (λ d. d < p)) r (below-reduce p positive x)))

  size_sum : (x y : List ℕ) → length x ≡ length n → length y ≡ length n → length (sum_of p x y) ≡ length n
  size_sum x y hx hy = length-reduce p (add x y) ∙ length-add x y (hx ∙ sym hy) ∙ hx

  pub reduced_product : (x y : List ℕ) → reduce p (product_of p n x y) ≡ product_of p n x y
  reduced_product x y = ap (reduce p) (product_is p n x y) ∙ reduce-reduce p (mul n x y) ∙ sym (product_is p n x y)

  -- the digits of a sum, a product, 0 and 1
  D_plus : (x y : ℕ) → D (plus p (suc e) x y) ≡ sum_of p (D x) (D y)
  D_plus x y = back (sum_of p (D x) (D y)) (size_sum (D x) (D y) (size_D x) (size_D y)) (reduce-reduce p (add (D x) (D y)))

  D_times : (x y : ℕ) → D (times p (suc e) n x y) ≡ product_of p n (D x) (D y)
  D_times x y = back (product_of p n (D x) (D y)) (length-product p n e size (D x) (D y) (size_D y)) (reduced_product (D x) (D y))

  D_zero : D 0 ≡ replicate (suc e) 0
  D_zero = ap D (sym (number-zeros p positive (suc e))) ∙ back (replicate (suc e) 0) (length-replicate {A = ℕ} (suc e) 0 ∙ sym size) (reduce-zeros (suc e))
    where
      reduce-zeros : (m : ℕ) → reduce p (replicate m 0) ≡ replicate m 0
      reduce-zeros zero = refl
      reduce-zeros (suc m) = ap₂ ◌∷◌ (zero-mod p) (reduce-zeros m)

  D_one : D 1 ≡ one e
  D_one =
      ap D (let f : 1 ≡ 1 + p * number p (replicate e 0) = omega (arith, ap (λ t. p * t) (number-zeros p positive e)) in f)
      ∙ back (one e) (ap suc (length-replicate {A = ℕ} e 0) ∙ sym size) (ap₂ ◌∷◌ (mod-eq_of_lt two) (reduce_below p positive (replicate e 0) (zeros_below e)))
    where
      zeros_below : (m : ℕ) → AllByRecursion (λ d. d < p) (replicate m 0)
      zeros_below zero = tt
      zeros_below (suc m) = (positive, zeros_below m)

  -- each number has a negative
  negative : (x : ℕ) → (y : ℕ) × (y < p ^ suc e) × (plus p (suc e) x y ≡ 0)
  negative x =
      let h : length (opposite p (D x)) ≡ length n = length-opposite p (D x) ∙ size_D x in (
        number p (opposite p (D x)),
        number_small (opposite p (D x)) h (reduce-opposite p (D x)),
        ap (number p) (ap (sum_of p (D x)) (back (opposite p (D x)) h (reduce-opposite p (D x))) ∙ sum-opposite p (D x) (digits_below p positive (suc e) x))
            ∙ number-zeros p positive (length (D x)),
      )

  -- the ring
  pub ring : IsCommutativeRing (p ^ suc e) (plus p (suc e)) (times p (suc e) n)
  ring = record {
    sums_below = λ x y. number_small (sum_of p (D x) (D y)) (size_sum (D x) (D y) (size_D x) (size_D y)) (reduce-reduce p (add (D x) (D y)));
    sums_commute = λ x y. ap (number p) (sum_comm p (D x) (D y));
    sums_associate = λ x y z. ap (number p) (ap (λ t. sum_of p t (D z)) (D_plus x y) ∙ sum_assoc p (D x) (D y) (D z) ∙ ap (sum_of p (D x)) (sym (D_plus y z)));
    zero_neutral = λ x hx. ap (number p) (ap (λ t. reduce p (add (D x) t)) D_zero ∙ ap (reduce p) (add_comm (D x) (replicate (suc e) 0) ∙ zeros-add (suc e) (D x) (length-digits p positive (suc e) x)) ∙ reduced_D x) ∙ number-digits p positive (suc e) x hx;
    negatives = negative;
    products_below = λ x y. number_small (product_of p n (D x) (D y)) (length-product p n e size (D x) (D y) (size_D y)) (reduced_product (D x) (D y));
    products_commute = λ x y. ap (number p) (product_comm p n e size (D x) (D y) (size_D x) (size_D y));
    products_associate = λ x y z. ap (number p) (ap (λ t. product_of p n t (D z)) (D_times x y) ∙ product_assoc p n e size (D x) (D y) (D z) (size_D x) (size_D y) (size_D z) ∙ ap (product_of p n (D x)) (sym (D_times y z)));
    one_below = subst (λ t. 1 < t) (sym (pow-suc p e)) (omega (arith, mul-le-mul_right p (one-le-pow e p positive)));
    one_neutral = λ x hx. ap (number p) (ap (product_of p n (D x)) D_one ∙ product-one p n e size (D x) (size_D x) (reduced_D x)) ∙ number-digits p positive (suc e) x hx;
    products_distribute = λ x y z. ap (number p) (ap (product_of p n (D x)) (D_plus y z) ∙ product-sum p n e size (D x) (D y) (D z) (size_D y) (size_D z) ∙ ap₂ (sum_of p) (sym (D_times x y)) (sym (D_times x z)));
  }
