-- The next entry of each table, from those that stand there.
use Rattle.std.proofs.Common.{◌≡◌, ◌≢◌, ℕ, ◌+◌, ◌*◌, ◌-◌, ◌/◌, ◌%◌, ◌<◌, ◌≤◌, List, length, slice_index, arith, ap, sym, ◌∙◌, subst, inl, inr}
use Rattle.std.proofs.Math.Path.{ap₂}
use Rattle.std.proofs.Math.Nat.{add-mod, div-le_self, div-lt_self, mul-div-le, mul-le-mul_left, mul-le-mul_right}
use Rattle.counting.proofs.Booleans.{cases_lt}
use Rattle.design_base.specs.Rings.{IsCommutativeRing}
use Rattle.design_base.specs.Fields.{Modulus, field_sum, field_product}
use Rattle.design_base.specs.declared.limits.TheConstants.{POINTS_MAX}
use Rattle.field_tables.specs.declared.polynomial.Polynomial.{Polynomial}
use Rattle.field_tables.specs.Tables.{IsListed, IsModular, IsTable, IsValues, by_rows, excess, modulus_in, shifted}
use Rattle.field_tables.proofs.Listed.{IsModulusOf, modulus_known}
use Rattle.field_tables.proofs.Rules.{sum_rule, shift_rule_low, shift_rule_high, product_rule_zero, product_rule_next, product_rule_shift, prime_rule, high_rule}
use Rattle.field_tables.proofs.Values.{earlier, row_at, table_at}

module _ (f : Polynomial) (listed : IsListed f) where
  -- the order, the prime and the polynomial
  abbrev q : ℕ
  q = f.order

  abbrev p : ℕ
  p = f.prime

  abbrev s : Modulus
  s = modulus_in f

  -- what is known of it
  pub known : IsModulusOf f.order (modulus_in f)
  known = modulus_known f.order (modulus_in f) listed

  pub positive : 0 < f.prime
  positive = let h : 2 ≤ p = known.two in omega arith

  pub small : f.order ≤ POINTS_MAX
  small = known.small

  ring_here : IsCommutativeRing f.order (field_sum f.order) (field_product f.order)
  ring_here = known.field.ring

  -- a prime order computes with remainders
  pub modular : f.order ≡ f.prime → IsModular f.order
  modular same = prime_rule q p f.lower.now listed same

  -- quotients
  smaller : (x : ℕ) → 0 < x → x / p < x
  smaller x h = div-lt_self h known.two

  no_larger : (x : ℕ) → x / p ≤ x
  no_larger x = div-le_self x p

  -- the sums: the first, the place of the one that the next is made of, and the next
  pub sum_first : (x y : ℕ) → x * q + y ≡ 0 → x < q → 0 ≡ field_sum q x y
  sum_first x y none h =
      let first : x ≡ 0 = pos_cases x (omega (arith, none)) in
      let last : y ≡ 0 = omega arith in
      sym (ap₂ (field_sum q) first last ∙ ring_here.zero_neutral 0 (omega arith))
    where
      pos_cases : (x : ℕ) → x * q ≡ 0 → x ≡ 0
      pos_cases x e = elim (cases_lt 0 x) [ inl pos ↦ absurd (omega (arith, mul-le-mul_right q pos)) | inr none ↦ omega arith ]

  pub sum_inside : (x y : ℕ) → x < q → y < q → 0 < x * q + y → x / p * q + y / p < x * q + y
  sum_inside x y hx hy some = elim (cases_lt 0 x) [
    | inl pos ↦ earlier q (x / p) x (y / p) y (smaller x pos) (omega (arith, no_larger y))
    | inr none ↦
        let first : x ≡ 0 = omega arith in
        let zero : x / p ≡ 0 = omega (arith, no_larger x) in
        omega (arith, smaller y (omega (arith, ap (λ t. t * q) first)), ap (λ t. t * q) first, ap (λ t. t * q) zero)
  ]

  pub sum_after : (x y r : ℕ) (t : List ℕ) → x < q → y < q → IsValues (by_rows (field_sum q) q) t → length t ≡ x * q + y → 0 < length t → r ≡ slice_index t (x / p * q + y / p) → (x + y) % p + p * r ≡ field_sum q x y
  sum_after x y r t hx hy h size some e =
      let inside : x / p * q + y / p < length t = omega (arith, sum_inside x y hx hy (omega arith)) in
      ap₂ (λ a b. a + p * b) (add-mod x y p) (e ∙ row_at (field_sum q) q t h (x / p) (y / p) (omega (arith, no_larger y)) inside)
      ∙ sym (sum_rule q p f.lower.now listed x y hx hy)

  pub sum_below : (x y : ℕ) → field_sum q x y < q
  sum_below x y = ring_here.sums_below x y

  -- the products by the polynomial x, while the highest digit is 0
  pub shift_first : (y : ℕ) → y < q / p → p * y ≡ shifted s y
  shift_first y h = sym (shift_rule_low q p f.lower.now listed y h)

  pub shift_fits : (y : ℕ) → y < q / p → p * y < q
  shift_fits y h = omega (arith, mul-le-mul_left p h, mul-div-le q p, positive)

  -- and else from an earlier one
  pub before_high : (y : ℕ) → q / p ≤ y → y - q / p < y
  before_high y h = let some : 0 < q / p = high_rule q p f.lower.now listed in omega arith

  -- each product by the polynomial x is an element
  pub shift_below : (y : ℕ) → y < q → shifted s y < q
  shift_below y h = elim (cases_lt y (q / p)) [
    | inl low ↦ subst (λ t. t < q) (shift_first y low) (shift_fits y low)
    | inr high ↦ subst (λ t. t < q) (sym (shift_rule_high q p f.lower.now listed y high h)) (sum_below (shifted s (y - q / p)) (excess s))
  ]

  pub shift_after : (y a b r : ℕ) (t : List ℕ) → q / p ≤ y → y < q → a ≡ shifted s (y - q / p) → b ≡ excess s → b < q → IsTable (field_sum q) q t → r ≡ slice_index t (a * q + b) → r ≡ shifted s y
  shift_after y a b r t high h ea eb hb table e =
      let ha : a < q = subst (λ t. t < q) (sym ea) (shift_below (y - q / p) (omega arith)) in
      e ∙ table_at (field_sum q) q t table a b ha hb
      ∙ ap₂ (field_sum q) ea eb ∙ sym (shift_rule_high q p f.lower.now listed y high h)

  -- the row of 0
  pub product_first : (x y : ℕ) → x ≡ 0 → 0 ≡ field_product q x y
  product_first x y none = sym (ap (λ t. field_product q t y) none ∙ product_rule_zero q p f.lower.now listed y)

  pub product_below : (x y : ℕ) → field_product q x y < q
  product_below x y = ring_here.products_below x y

  -- a row by the row of x / p
  pub multiple_inside : (x y b : ℕ) → 0 < x → b < q → x / p * q + b < x * q + y
  multiple_inside x y b pos h = earlier q (x / p) x b y (smaller x pos) h

  pub multiple_after : (x y b r : ℕ) (t : List ℕ) → 0 < x → x < q → y < q → x % p ≡ 0 → b ≡ shifted s y → IsValues (by_rows (field_product q) q) t → length t ≡ x * q + y → r ≡ slice_index t (x / p * q + b) → r ≡ field_product q x y
  multiple_after x y b r t pos hx hy none eb h size e =
      let hb : b < q = subst (λ t. t < q) (sym eb) (shift_below y hy) in
      let inside : x / p * q + b < length t = omega (arith, multiple_inside x y b pos hb) in
      e ∙ row_at (field_product q) q t h (x / p) b hb inside ∙ ap (field_product q (x / p)) eb
      ∙ sym (product_rule_shift q p f.lower.now listed x y hx none)

  -- a row by the row before
  pub next_inside : (x y : ℕ) → 0 < x → y < q → (x - 1) * q + y < x * q + y
  next_inside x y pos h = earlier q (x - 1) x y y (omega arith) h

  pub before_is : (x y r : ℕ) (t : List ℕ) → 0 < x → y < q → IsValues (by_rows (field_product q) q) t → length t ≡ x * q + y → r ≡ slice_index t ((x - 1) * q + y) → r ≡ field_product q (x - 1) y
  before_is x y r t pos hy h size e = e ∙ row_at (field_product q) q t h (x - 1) y hy (omega (arith, next_inside x y pos hy))

  pub next_after : (x y a r : ℕ) (t : List ℕ) → x < q → y < q → x % p ≢ 0 → a ≡ field_product q (x - 1) y → IsTable (field_sum q) q t → r ≡ slice_index t (a * q + y) → r ≡ field_product q x y
  next_after x y a r t hx hy some ea table e =
      let ha : a < q = subst (λ t. t < q) (sym ea) (product_below (x - 1) y) in
      e ∙ table_at (field_sum q) q t table a y ha hy ∙ ap (λ t. field_sum q t y) ea
      ∙ sym (product_rule_next q p f.lower.now listed x y hx hy some)
