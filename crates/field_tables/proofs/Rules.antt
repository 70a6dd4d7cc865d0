-- The rules by which the tables of a listed order are filled.
use Rattle.std.proofs.Common.{◌≡◌, ◌≢◌, ℕ, ◌+◌, ◌*◌, ◌-◌, ◌/◌, ◌%◌, ◌^◌, ◌<◌, ◌≤◌, suc, List, [], ◌∷◌, length, Some, arith, ap, sym, ◌∙◌, subst}
use Rattle.std.proofs.Math.Nat.{pow-suc, mul-div_right, mod-add-div, one-le-pow, mul-le-mul_left, mul-le-mul_right}
use Rattle.std.proofs.lemmas.List.{length-map}
use Rattle.design_base.specs.Digits.{plus, times}
use Rattle.design_base.specs.Fields.{modulus, modulus_of, negated, field_sum, field_product}
use Rattle.field_tables.specs.Tables.{IsModular, excess, shifted}
use Rattle.field_tables.proofs.Steps as steps
use Rattle.field_tables.proofs.Listed.{IsModulusOf, modulus_known}

module _ (q p c : ℕ) (cs : List ℕ) (found : modulus_of q ≡ Some (modulus p (c ∷ cs))) where
  e : ℕ
  e = length cs

  n : List ℕ
  n = negated (modulus p (c ∷ cs))

  known : IsModulusOf q (modulus p (c ∷ cs))
  known = modulus_known q (modulus p (c ∷ cs)) found

  size : length n ≡ suc (length cs)
  unfolding n
  size = ap suc (length-map cs (λ c. p - c))

  whole : p * p ^ length cs ≡ q
  whole = let h : p ^ suc (length cs) ≡ q = known.whole in omega (arith, pow-suc p (length cs))

  -- the number at whose multiples the highest digit changes
  high : q / p ≡ p ^ length cs
  high = let two : 2 ≤ p = known.two in ap (λ t. t / p) (sym whole) ∙ mul-div_right (p ^ length cs) (omega arith)

  below : (x : ℕ) → x < q → x < p ^ suc (length cs)
  below x h = subst (λ t. x < t) (sym known.whole) h

  rest : (x : ℕ) → x < q → x / p < p ^ length cs
  rest x h = steps.rest_below p known.two (length cs) x (below x h)

  sum_is : (x y : ℕ) → field_sum q x y ≡ plus p (suc (length cs)) x y
  sum_is x y = ap (λ f. f x y) known.sums

  product_is : (x y : ℕ) → field_product q x y ≡ times p (suc (length cs)) n x y
  unfolding n
  product_is x y = ap (λ f. f x y) known.products

  -- the six rules, where the degree is known
  sum_here : (x y : ℕ) → x < q → y < q → field_sum q x y ≡ (x % p + y % p) % p + p * field_sum q (x / p) (y / p)
  sum_here x y hx hy = sum_is x y ∙ ap (λ t. (x % p + y % p) % p + p * t)
      (sym (steps.plus-wider p known.two (length cs) (x / p) (y / p) (rest x hx) (rest y hy)) ∙ sym (sum_is (x / p) (y / p)))

  low_here : (y : ℕ) → y < q / p → shifted (modulus p (c ∷ cs)) y ≡ p * y
  unfolding n
  low_here y h = steps.shifted_low p known.two (length cs) n size y (subst (λ t. y < t) high h)

  high_here : (y : ℕ) → q / p ≤ y → y < q → shifted (modulus p (c ∷ cs)) y ≡ field_sum q (shifted (modulus p (c ∷ cs)) (y - q / p)) (excess (modulus p (c ∷ cs)))
  unfolding n
  high_here y h lt =
      let back : y - q / p + p ^ length cs ≡ y = omega (arith, high) in
      ap (shifted (modulus p (c ∷ cs))) (sym back)
      ∙ steps.shifted_high p known.two (length cs) n size (y - q / p) (subst (λ t. t < p ^ suc (length cs)) (sym back) (below y lt))
      ∙ sym (sum_is (shifted (modulus p (c ∷ cs)) (y - q / p)) (excess (modulus p (c ∷ cs))))

  zero_here : (y : ℕ) → field_product q 0 y ≡ 0
  zero_here y = product_is 0 y ∙ steps.times_zero p known.two (length cs) n size y

  next_here : (x y : ℕ) → x < q → y < q → x % p ≢ 0 → field_product q x y ≡ field_sum q (field_product q (x - 1) y) y
  next_here x y hx hy ne = product_is x y ∙ steps.times_next p known.two (length cs) n size x y (below x hx) (below y hy) ne
      ∙ ap (λ t. plus p (suc (length cs)) t y) (sym (product_is (x - 1) y)) ∙ sym (sum_is (field_product q (x - 1) y) y)

  shift_here : (x y : ℕ) → x < q → x % p ≡ 0 → field_product q x y ≡ field_product q (x / p) (shifted (modulus p (c ∷ cs)) y)
  unfolding n
  shift_here x y hx none =
      let multiple : x ≡ p * (x / p) = omega (arith, mod-add-div x p) in
      product_is x y ∙ ap (λ t. times p (suc (length cs)) n t y) multiple
      ∙ steps.times_shifted p known.two (length cs) n size (x / p) y (rest x hx) ∙ sym (product_is (x / p) (shifted (modulus p (c ∷ cs)) y))

none_listed : (q p : ℕ) → modulus_of q ≡ Some (modulus p []) → ⊥
none_listed q p found = let h : 1 ≤ 0 = (modulus_known q (modulus p []) found).degree in omega arith

-- digit by digit
pub sum_rule : (q p : ℕ) (lower : List ℕ) → modulus_of q ≡ Some (modulus p lower) → (x y : ℕ) → x < q → y < q → field_sum q x y ≡ (x % p + y % p) % p + p * field_sum q (x / p) (y / p)
sum_rule q p [] found x y hx hy = absurd (none_listed q p found)
sum_rule q p (c ∷ cs) found x y hx hy = sum_here q p c cs found x y hx hy

-- the polynomial x times an element whose highest digit is 0, and whose highest digit isn't
pub shift_rule_low : (q p : ℕ) (lower : List ℕ) → modulus_of q ≡ Some (modulus p lower) → (y : ℕ) → y < q / p → shifted (modulus p lower) y ≡ p * y
shift_rule_low q p [] found y h = absurd (none_listed q p found)
shift_rule_low q p (c ∷ cs) found y h = low_here q p c cs found y h

pub shift_rule_high : (q p : ℕ) (lower : List ℕ) → modulus_of q ≡ Some (modulus p lower) → (y : ℕ) → q / p ≤ y → y < q → shifted (modulus p lower) y ≡ field_sum q (shifted (modulus p lower) (y - q / p)) (excess (modulus p lower))
shift_rule_high q p [] found y h lt = absurd (none_listed q p found)
shift_rule_high q p (c ∷ cs) found y h lt = high_here q p c cs found y h lt

-- the products by 0, by an element whose lowest digit isn't 0, and by a multiple of the polynomial x
pub product_rule_zero : (q p : ℕ) (lower : List ℕ) → modulus_of q ≡ Some (modulus p lower) → (y : ℕ) → field_product q 0 y ≡ 0
product_rule_zero q p [] found y = absurd (none_listed q p found)
product_rule_zero q p (c ∷ cs) found y = zero_here q p c cs found y

pub product_rule_next : (q p : ℕ) (lower : List ℕ) → modulus_of q ≡ Some (modulus p lower) → (x y : ℕ) → x < q → y < q → x % p ≢ 0 → field_product q x y ≡ field_sum q (field_product q (x - 1) y) y
product_rule_next q p [] found x y hx hy ne = absurd (none_listed q p found)
product_rule_next q p (c ∷ cs) found x y hx hy ne = next_here q p c cs found x y hx hy ne

pub product_rule_shift : (q p : ℕ) (lower : List ℕ) → modulus_of q ≡ Some (modulus p lower) → (x y : ℕ) → x < q → x % p ≡ 0 → field_product q x y ≡ field_product q (x / p) (shifted (modulus p lower) y)
product_rule_shift q p [] found x y hx none = absurd (none_listed q p found)
product_rule_shift q p (c ∷ cs) found x y hx none = shift_here q p c cs found x y hx none

-- an order that is its prime
pub prime_rule : (q p : ℕ) (lower : List ℕ) → modulus_of q ≡ Some (modulus p lower) → q ≡ p → IsModular q
prime_rule q p [] found same = absurd (none_listed q p found)
prime_rule q p (c ∷ []) found same =
    let k = modulus_known q (modulus p (c ∷ [])) found in
    record {
      sums = λ x y. ap (λ f. f x y) k.sums ∙ steps.plus_prime p k.two x y ∙ ap (λ t. (x + y) % t) (sym same);
      products = λ x y. ap (λ f. f x y) k.products ∙ steps.times_prime p k.two (p - c) x y ∙ ap (λ t. x * y % t) (sym same);
    }
prime_rule q p (c ∷ (d ∷ ds)) found same =
    let k = modulus_known q (modulus p (c ∷ (d ∷ ds))) found in
    let two : 2 ≤ p = k.two in
    let one : 1 ≤ p ^ length ds = one-le-pow (length ds) p (omega arith) in
    let whole : p * (p * p ^ length ds) ≡ q = (let h : p ^ suc (suc (length ds)) ≡ q = k.whole in omega (arith, pow-suc p (suc (length ds)), ap (λ t. p * t) (pow-suc p (length ds)))) in
    let square : p * p ≤ p * (p * p ^ length ds) = mul-le-mul_left p (let h : p * 1 ≤ p * p ^ length ds = mul-le-mul_left p one in let g : p ≤ p * p ^ length ds = omega arith in g) in
    absurd (omega (arith, mul-le-mul_right p two))

-- some numbers have the highest digit 0
pub high_rule : (q p : ℕ) (lower : List ℕ) → modulus_of q ≡ Some (modulus p lower) → 0 < q / p
high_rule q p [] found = absurd (none_listed q p found)
high_rule q p (c ∷ cs) found =
    let two : 2 ≤ p = (modulus_known q (modulus p (c ∷ cs)) found).two in
    let one : 1 ≤ p ^ length cs = one-le-pow (length cs) p (omega arith) in
    omega (arith, high q p c cs found)
