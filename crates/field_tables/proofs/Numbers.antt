-- Numbers below p ^ e as lists of e digits.
use Rattle.std.proofs.Common.{◌≡◌, ℕ, ◌+◌, ◌*◌, ◌/◌, ◌%◌, ◌^◌, ◌<◌, ◌≤◌, suc, zero, List, [], ◌∷◌, length, arith, ap, refl, sym, ◌∙◌, replicate, subst}
use Rattle.std.specs.List.{AllByRecursion}
use Rattle.std.proofs.Math.Path.{ap₂}
use Rattle.std.proofs.Math.Nat.{mod-eq_of_lt, mod-lt, add-mul-mod_self_left, add-mul-div_left, div-eq_of_lt, mod-add-div, div-lt_iff_lt-mul, pow-suc, pow-zero, mul-le-mul_left}
use Rattle.design_base.specs.Digits.{reduce, digits, number}

module _ (p : ℕ) (positive : 0 < p) where
  -- the digits of a number
  pub length-digits : (e x : ℕ) → length (digits p e x) ≡ e
  length-digits zero x = refl
  length-digits (suc e) x = ap suc (length-digits e (x / p))

  pub digits_below : (e x : ℕ) → AllByRecursion (λ d. d < p) (digits p e x)
  digits_below zero x = tt
  digits_below (suc e) x = (mod-lt x positive, digits_below e (x / p))

  -- digits below p are reduced
  pub reduce_below : (x : List ℕ) → AllByRecursion (λ d. d < p) x → reduce p x ≡ x
  reduce_below [] h = refl
  reduce_below (x ∷ xs) h = ap₂ ◌∷◌ (mod-eq_of_lt h.0) (reduce_below xs h.1)

  pub below-reduce : (x : List ℕ) → AllByRecursion (λ d. d < p) (reduce p x)
  below-reduce [] = tt
  below-reduce (x ∷ xs) = (mod-lt x positive, below-reduce xs)

  -- the number of the digits, and the digits of the number
  pub number-digits : (e x : ℕ) → x < p ^ e → number p (digits p e x) ≡ x
  number-digits zero x h = omega (arith, pow-zero p)
  number-digits (suc e) x h =
      let rest : x / p < p ^ e = (div-lt_iff_lt-mul positive).1 (subst (λ t. x < t) (pow-suc p e) h) in
      ap (λ t. x % p + p * t) (number-digits e (x / p) rest) ∙ mod-add-div x p

  pub digits-number : (x : List ℕ) → AllByRecursion (λ d. d < p) x → digits p (length x) (number p x) ≡ x
  digits-number [] h = refl
  digits-number (d ∷ ds) h = ap₂ ◌∷◌ (add-mul-mod_self_left d p (number p ds) ∙ mod-eq_of_lt h.0)
      (ap (digits p (length ds)) (add-mul-div_left d (number p ds) positive ∙ ap (λ t. t + number p ds) (div-eq_of_lt h.0) ∙ (let e : 0 + number p ds ≡ number p ds = omega arith in e)) ∙ digits-number ds h.1)

  pub number_below : (x : List ℕ) → AllByRecursion (λ d. d < p) x → number p x < p ^ length x
  number_below [] h = omega (arith, pow-zero p)
  number_below (d ∷ ds) h = subst (λ t. number p (d ∷ ds) < t) (sym (pow-suc p (length ds)))
      (let part : p * suc (number p ds) ≤ p * p ^ length ds = mul-le-mul_left p (number_below ds h.1) in
      let first : d < p = h.0 in omega arith)

  -- zeros
  pub number-zeros : (e : ℕ) → number p (replicate e 0) ≡ 0
  number-zeros zero = refl
  number-zeros (suc e) = omega (arith, ap (λ t. p * t) (number-zeros e))
