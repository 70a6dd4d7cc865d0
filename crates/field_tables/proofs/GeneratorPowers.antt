-- Powers of a generator of the nonzero elements of a field.
use Rattle.std.proofs.Common.{Bool, ap, arith, inl, inr, suc, sym, true, zero, ℕ, ◌*◌, ◌+◌, ◌-◌, ◌<◌, ◌≤◌, ◌==◌, ◌∙◌, ◌≡◌}
use Rattle.std.proofs.Math.Nat.{pos_of_ne-zero}
use Rattle.counting.proofs.Booleans.{cases_order, eq-eqb, eqb-true}
use Rattle.counting.proofs.Counts.{count_one, one-true, sum_below-const, sum_below-le, sum_below-turn}
use Rattle.counting.specs.Sums.{one, sum_below}
use Rattle.design_base.specs.Rings.{IsField}
use Rattle.field_tables.proofs.AnyField.{mul_cancel, no_zero_divisors}
use Rattle.field_tables.specs.Powers.{power}
use Rattle.counting.proofs.Totals.{count_unique, each_least, sum_below-term, sum_below-two}

-- each element but 0 is one of the powers g ^ 0, .., g ^ (q - 2)
pub record IsGenerator (q : ℕ) (mul : ℕ → ℕ → ℕ) (g : ℕ) : Type 0 where
  pub positive : 0 < g
  pub small : g < q
  pub log : (x : ℕ) → 0 < x → x < q → (i : ℕ) × (i < q - 1) × (power mul g i ≡ x)

module _ (q : ℕ) (add mul : ℕ → ℕ → ℕ) (field : IsField q add mul) (g : ℕ) (generator : IsGenerator q mul g) where
  pub power_below : (i : ℕ) → power mul g i < q
  unfolding power
  power_below zero = field.ring.one_below
  power_below (suc i) = field.ring.products_below (power mul g i) g

  pub power_positive : (i : ℕ) → 0 < power mul g i
  unfolding power
  power_positive zero = omega arith
  power_positive (suc i) = pos_of_ne-zero (λ e. elim (no_zero_divisors q add mul field.ring field.inverses (power mul g i) g (power_below i) generator.small e) [
    | inl f ↦ absurd (omega (arith, power_positive i))
    | inr f ↦ absurd (omega (arith, generator.positive))
  ])

  pub power-add : (a b : ℕ) → power mul g (a + b) ≡ mul (power mul g a) (power mul g b)
  unfolding power
  power-add a zero = ap (power mul g) (let e : a + 0 ≡ a = omega arith in e) ∙ sym (field.ring.one_neutral (power mul g a) (power_below a))
  power-add a (suc b) = ap (power mul g) (let e : a + suc b ≡ suc (a + b) = omega arith in e) ∙ ap (λ t. mul t g) (power-add a b) ∙ field.ring.products_associate (power mul g a) (power mul g b) g

  -- no two of the powers are one element
  pub powers_apart : (i j : ℕ) → i < q - 1 → j < q - 1 → power mul g i ≡ power mul g j → i ≡ j
  powers_apart i j l m e = elim (cases_order i j) [
    | inl s ↦ s
    | inr (inl w) ↦ absurd (twice i j w m e)
    | inr (inr w) ↦ absurd (twice j i w l (sym e))
  ]
    where
      times : ℕ → ℕ
      times x = sum_below (q - 1) (λ i. one (power mul g i == suc x))

      one_of : (x i : ℕ) → i < q - 1 → power mul g i ≡ suc x → 1 ≤ times x
      one_of x i l e = omega (arith, sum_below-term (q - 1) i (λ i. one (power mul g i == suc x)) l, one-true (power mul g i == suc x) (eq-eqb (power mul g i) (suc x) e))

      few : (i : ℕ) → i < q - 1 → sum_below (q - 1) (λ x. one (power mul g i == suc x)) ≤ 1
      few i l = count_unique (q - 1) (λ x. power mul g i == suc x) (λ x y a b e f. omega (arith, eqb-true (power mul g i) (suc x) e, eqb-true (power mul g i) (suc y) f))

      once : (x : ℕ) → x < q - 1 → times x ≡ 1
      once = each_least (q - 1) 1 times
          (λ x l. let i = generator.log (suc x) (omega arith) (omega arith) in one_of x i.0 i.1 i.2)
          (omega (
            arith,
            sum_below-turn (q - 1) (q - 1) (λ x i. one (power mul g i == suc x)),
            sum_below-le (q - 1) (λ i. sum_below (q - 1) (λ x. one (power mul g i == suc x))) (λ i. 1) few,
            sum_below-const (q - 1) 1,
          ))

      twice : (i j : ℕ) → i < j → j < q - 1 → power mul g i ≡ power mul g j → ⊥
      twice i j l m e =
          let x : ℕ = power mul g i - 1 in
          let is : power mul g i ≡ suc x = omega (arith, power_positive i) in
          omega (
            arith,
            once x (omega (arith, power_below i, power_positive i)),
            sum_below-two (q - 1) i j (λ i. one (power mul g i == suc x)) l m,
            one-true (power mul g i == suc x) (eq-eqb (power mul g i) (suc x) is),
            one-true (power mul g j == suc x) (eq-eqb (power mul g j) (suc x) (sym e ∙ is)),
          )

  -- g ^ (q - 1) is 1
  pub power-order : power mul g (q - 1) ≡ 1
  unfolding power
  power-order =
      let i = generator.log (power mul g (q - 1)) (power_positive (q - 1)) (power_below (q - 1)) in
      by i.0 i.1 i.2
    where
      by : (i : ℕ) → i < q - 1 → power mul g i ≡ power mul g (q - 1) → power mul g (q - 1) ≡ 1
      by zero l e = sym e
      by (suc i) l e =
          let s : q - 1 ≡ suc (q - 2) = omega arith in
          let same : power mul g i ≡ power mul g (q - 2) = mul_cancel q add mul field.ring field.inverses g (power mul g i) (power mul g (q - 2)) generator.positive generator.small (power_below i) (power_below (q - 2))
          (field.ring.products_commute g (power mul g i) ∙ e ∙ ap (power mul g) s ∙ field.ring.products_commute (power mul g (q - 2)) g) in
          absurd (omega (arith, powers_apart i (q - 2) (omega arith) (omega arith) same))

  -- whole turns change nothing
  pub power-turns : (i c : ℕ) → power mul g (i + (q - 1) * c) ≡ power mul g i
  power-turns i zero = ap (power mul g) (let e : i + (q - 1) * 0 ≡ i = omega arith in e)
  power-turns i (suc c) = ap (power mul g) (let e : i + (q - 1) * suc c ≡ i + (q - 1) * c + (q - 1) = omega arith in e) ∙ power-add (i + (q - 1) * c) (q - 1)
      ∙ ap (mul (power mul g (i + (q - 1) * c))) power-order ∙ field.ring.one_neutral (power mul g (i + (q - 1) * c)) (power_below (i + (q - 1) * c)) ∙ power-turns i c

  -- one power t passes, where one element but 0 does
  pub one_power : (p : ℕ → Bool) (x : ℕ) → 0 < x → x < q → p x ≡ true → ((y : ℕ) → 0 < y → y < q → p y ≡ true → y ≡ x) → sum_below (q - 1) (λ t. one (p (power mul g t))) ≡ 1
  one_power p x pos l e u =
      let i = generator.log x pos l in
      count_one (q - 1) i.0 (λ t. p (power mul g t)) i.1 (ap p i.2 ∙ e) (λ t m f. powers_apart t i.0 m i.1 (u (power mul g t) (power_positive t) (power_below t) f ∙ sym i.2))
