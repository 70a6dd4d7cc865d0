-- What follows in any commutative ring of the numbers below q, and in any field; FieldLaws has what a field gives under one name each,
-- for open field_laws q add mul field use {..}.
use Rattle.std.proofs.Common.{◌≡◌, ◌≢◌, ℕ, ◌<◌, arith, ap, sym, ◌∙◌, inl, inr}
use Rattle.std.specs.Prelude.{◌⊎◌}
use Rattle.std.proofs.Math.Nat.{pos_of_ne-zero}
use Rattle.counting.proofs.Booleans.{cases_lt}
use Rattle.design_base.specs.Rings.{IsCommutativeRing, IsField, HasInverses}
use Rattle.field_tables.proofs.AnyGroup.{ring_sums, group_left, group_cancel, group_difference}

-- regroup by simp with r.sums_associate, r.sums_commute and sums_left, multiply out with r.products_distribute and distribute_right
module _ (q : ℕ) (add mul : ℕ → ℕ → ℕ) (r : IsCommutativeRing q add mul) where
  -- the first two change places
  pub sums_left : (x y z : ℕ) → add x (add y z) ≡ add y (add x z)
  sums_left = group_left q add (ring_sums q add mul r)

  pub products_left : (x y z : ℕ) → mul x (mul y z) ≡ mul y (mul x z)
  products_left x y z = sym (r.products_associate x y z) ∙ ap (λ t. mul t z) (r.products_commute x y) ∙ r.products_associate y x z

  pub distribute_right : (x y z : ℕ) → mul (add x y) z ≡ add (mul x z) (mul y z)
  distribute_right x y z = simp (r.products_commute, r.products_distribute)

  -- a sum by one element tells the other
  pub add_cancel : (x y z : ℕ) → y < q → z < q → add x y ≡ add x z → y ≡ z
  add_cancel = group_cancel q add (ring_sums q add mul r)

  -- x and the difference make z
  pub difference : (x z : ℕ) → z < q → (d : ℕ) × (d < q) × (add x d ≡ z)
  difference = group_difference q add (ring_sums q add mul r)

  pub difference_once : (x z c d : ℕ) → c < q → d < q → add x c ≡ z → add x d ≡ z → c ≡ d
  difference_once x z c d hc hd e f = add_cancel x c d hc hd (e ∙ sym f)

  pub zero_below : 0 < q
  zero_below = omega (arith, r.one_below)

  pub zero_sum : add 0 0 ≡ 0
  zero_sum = r.zero_neutral 0 zero_below

  -- a product by 0
  pub mul-zero : (x : ℕ) → mul x 0 ≡ 0
  mul-zero x =
      add_cancel (mul x 0) (mul x 0) 0 (r.products_below x 0) zero_below
      (sym (r.products_distribute x 0 0) ∙ ap (mul x) zero_sum ∙ sym (r.zero_neutral (mul x 0) (r.products_below x 0)))

  pub zero-mul : (x : ℕ) → mul 0 x ≡ 0
  zero-mul x = r.products_commute 0 x ∙ mul-zero x

  module _ (inverses : HasInverses q mul) where
    -- x times the quotient is z
    pub divide : (x z : ℕ) → 0 < x → x < q → z < q → (y : ℕ) × (y < q) × (mul x y ≡ z)
    divide x z pos lt h = (
      mul (inverses x pos lt).0 z,
      r.products_below (inverses x pos lt).0 z,
      sym (r.products_associate x (inverses x pos lt).0 z) ∙ ap (λ t. mul t z) (inverses x pos lt).2 ∙ r.products_commute 1 z ∙ r.one_neutral z h,
    )

    -- a product by an element but 0 tells the other
    pub mul_cancel : (x y z : ℕ) → 0 < x → x < q → y < q → z < q → mul x y ≡ mul x z → y ≡ z
    mul_cancel x y z pos lt hy hz e = sym (unmul y hy) ∙ ap (mul (inverses x pos lt).0) e ∙ unmul z hz
      where
        unmul : (y : ℕ) → y < q → mul (inverses x pos lt).0 (mul x y) ≡ y
        unmul y hy = sym (r.products_associate (inverses x pos lt).0 x y)
            ∙ ap (λ t. mul t y) (r.products_commute (inverses x pos lt).0 x ∙ (inverses x pos lt).2) ∙ r.products_commute 1 y ∙ r.one_neutral y hy

    pub divide_once : (x z c d : ℕ) → 0 < x → x < q → c < q → d < q → mul x c ≡ z → mul x d ≡ z → c ≡ d
    divide_once x z c d pos lt hc hd e f = mul_cancel x c d pos lt hc hd (e ∙ sym f)

    -- a product is 0 only by 0
    pub no_zero_divisors : (x y : ℕ) → x < q → y < q → mul x y ≡ 0 → (x ≡ 0) ⊎ (y ≡ 0)
    no_zero_divisors x y hx hy e = elim (cases_lt 0 x) [
      | inr none ↦ inl (omega arith)
      | inl pos ↦ inr (mul_cancel x y 0 pos hx hy (omega arith) (e ∙ sym (mul-zero x)))
    ]

    -- two lines of different slopes meet at one point
    module _ (m k b c : ℕ) (hm : m < q) (hk : k < q) (hb : b < q) (hc : c < q) (ne : m ≢ k) where
      slope : (d : ℕ) × (d < q) × (add k d ≡ m)
      slope = difference k m hm

      slope_positive : 0 < slope.0
      unfolding slope
      slope_positive = pos_of_ne-zero (λ e. ne (sym slope.2 ∙ ap (add k) e ∙ r.zero_neutral k hk))

      rise : (d : ℕ) × (d < q) × (add b d ≡ c)
      rise = difference b c hc

      -- the lines meet at x exactly where slope times x is the rise
      left_side : (x : ℕ) → add (mul m x) b ≡ add (mul k x) (add b (mul slope.0 x))
      left_side x = ap (λ t. add (mul t x) b) (sym slope.2) ∙ simp (distribute_right, r.sums_associate, r.sums_commute, sums_left)

      pub lines_meet : (x : ℕ) × (x < q) × (add (mul m x) b ≡ add (mul k x) c)
      lines_meet =
          let x = divide slope.0 rise.0 slope_positive slope.1 rise.1 in
          (x.0, x.1, left_side x.0 ∙ ap (λ t. add (mul k x.0) (add b t)) x.2 ∙ ap (add (mul k x.0)) rise.2)

      met : (x : ℕ) → add (mul m x) b ≡ add (mul k x) c → mul slope.0 x ≡ rise.0
      met x e = add_cancel b (mul slope.0 x) rise.0 (r.products_below slope.0 x) rise.1
          (add_cancel (mul k x) (add b (mul slope.0 x)) (add b rise.0) (r.sums_below b (mul slope.0 x)) (r.sums_below b rise.0)
          (sym (left_side x) ∙ e ∙ ap (add (mul k x)) (sym rise.2)))

      pub lines_meet_once : (x y : ℕ) → x < q → y < q → add (mul m x) b ≡ add (mul k x) c → add (mul m y) b ≡ add (mul k y) c → x ≡ y
      lines_meet_once x y hx hy e f = mul_cancel slope.0 x y slope_positive slope.1 hx hy (met x e ∙ sym (met y f))

pub record FieldLaws (q : ℕ) (add mul : ℕ → ℕ → ℕ) : Type 0 where
  pub zero_below : 0 < q
  pub zero_sum : add 0 0 ≡ 0
  pub mul-zero : (x : ℕ) → mul x 0 ≡ 0
  pub zero-mul : (x : ℕ) → mul 0 x ≡ 0
  pub sums_left : (x y z : ℕ) → add x (add y z) ≡ add y (add x z)
  pub products_left : (x y z : ℕ) → mul x (mul y z) ≡ mul y (mul x z)
  pub distribute_right : (x y z : ℕ) → mul (add x y) z ≡ add (mul x z) (mul y z)
  pub add_cancel : (x y z : ℕ) → y < q → z < q → add x y ≡ add x z → y ≡ z
  pub difference : (x z : ℕ) → z < q → (d : ℕ) × (d < q) × (add x d ≡ z)
  pub divide : (x z : ℕ) → 0 < x → x < q → z < q → (y : ℕ) × (y < q) × (mul x y ≡ z)
  pub divide_once : (x z c d : ℕ) → 0 < x → x < q → c < q → d < q → mul x c ≡ z → mul x d ≡ z → c ≡ d
  pub mul_cancel : (x y z : ℕ) → 0 < x → x < q → y < q → z < q → mul x y ≡ mul x z → y ≡ z
  pub no_zero_divisors : (x y : ℕ) → x < q → y < q → mul x y ≡ 0 → (x ≡ 0) ⊎ (y ≡ 0)

pub field_laws : (q : ℕ) (add mul : ℕ → ℕ → ℕ) → IsField q add mul → FieldLaws q add mul
field_laws q add mul field = record {
  zero_below = zero_below q add mul field.ring;
  zero_sum = zero_sum q add mul field.ring;
  mul-zero = mul-zero q add mul field.ring;
  zero-mul = zero-mul q add mul field.ring;
  sums_left = sums_left q add mul field.ring;
  products_left = products_left q add mul field.ring;
  distribute_right = distribute_right q add mul field.ring;
  add_cancel = add_cancel q add mul field.ring;
  difference = difference q add mul field.ring;
  divide = divide q add mul field.ring field.inverses;
  divide_once = divide_once q add mul field.ring field.inverses;
  mul_cancel = mul_cancel q add mul field.ring field.inverses;
  no_zero_divisors = no_zero_divisors q add mul field.ring field.inverses;
}
