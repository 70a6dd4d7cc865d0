-- The generator of each listed field generates its nonzero elements: the checker computes the powers.
use Rattle.std.proofs.Common.{Bool, List, None, Option, Some, ap, arith, false, refl, subst, suc, sym, true, zero, ℕ, ◌+◌, ◌-◌, ◌<◌, ◌∙◌, ◌≡◌}
use Rattle.std.specs.Prelude.{is_some, nat_eq, unwrap_or, ◌&&◌, ◌==◌}
use Rattle.counting.proofs.Booleans.{both, eqb-true, leb-true}
use Rattle.counting.specs.Search.{each_passes, first_in, is_among, upward, ◌<=◌}
use Rattle.counting.specs.Sums.{join_below}
use Rattle.design_base.specs.Fields.{Modulus, field_product, gen, has_field, order, powers_from, product_in, modulus_of, moduli}
use Rattle.field_tables.proofs.Listed.{modulus_known}
use Rattle.field_tables.proofs.Search.{first_in-each, passes_below}
use Rattle.field_tables.specs.Powers.{power}
use Rattle.field_tables.proofs.GeneratorPowers.{IsGenerator}

-- the elements but 0 are among the powers of g
abbrev pub generates : (ℕ → ℕ → ℕ) → ℕ → ℕ → Bool
generates mul q g = let all : List ℕ = powers_from mul g 1 (q - 1) in each_passes (λ x. is_among x all) (upward 1 (q - 1))

abbrev pub least_in : (ℕ → ℕ → ℕ) → ℕ → ℕ
least_in mul q = unwrap_or (first_in (generates mul q) (upward 1 (q - 1))) 1

abbrev pub is_good : (ℕ → ℕ → ℕ) → ℕ → Bool
is_good mul q = let g : ℕ = least_in mul q in ((1 <= g && g + 1 <= q) && generates mul q g)

abbrev modulus_good : Modulus → Bool
modulus_good s = is_good (product_in (Some s)) (order s)

moduli_good : each_passes modulus_good moduli ≡ true
unfolding moduli each_passes first_in is_among powers_from join_below
moduli_good = refl

pub among_powers : (mul : ℕ → ℕ → ℕ) (g n m x : ℕ) → is_among x (powers_from mul g (power mul g m) n) ≡ true → (i : ℕ) × (i < n) × (power mul g (m + i) ≡ x)
unfolding is_among powers_from power
among_powers mul g zero m x e = absurd (let f = e in cc)
among_powers mul g (suc n) m x e = by (nat_eq x (power mul g m)) refl (among_powers mul g n (suc m) x) e
  where
    later : (i : ℕ) × (i < n) × (power mul g (suc m + i) ≡ x) → (i : ℕ) × (i < suc n) × (power mul g (m + i) ≡ x)
    later r = (suc r.0, omega (arith, r.1), ap (power mul g) (let s : m + suc r.0 ≡ suc m + r.0 = omega arith in s) ∙ r.2)

    by : (b : Bool) → nat_eq x (power mul g m) ≡ b → (is_among x (powers_from mul g (power mul g (suc m)) n) ≡ true → (i : ℕ) × (i < n) × (power mul g (suc m + i) ≡ x)) →
        elim b [ true ↦ true | false ↦ is_among x (powers_from mul g (power mul g (suc m)) n) ] ≡ true → (i : ℕ) × (i < suc n) × (power mul g (m + i) ≡ x)
    by true f rest h = (0, omega arith, ap (power mul g) (let s : m + 0 ≡ m = omega arith in s) ∙ sym (eqb-true x (power mul g m) f))
    by false f rest h = later (rest h)

good_generator : (mul : ℕ → ℕ → ℕ) (q : ℕ) → is_good mul q ≡ true → IsGenerator q mul (least_in mul q)
unfolding power
good_generator mul q e =
    let g : ℕ = least_in mul q in
    let h = both (1 <= g && g + 1 <= q) (generates mul q g) e in
    let bounds = both (1 <= g) (g + 1 <= q) h.0 in
    record {
      positive = leb-true 1 g bounds.0;
      small = omega (arith, leb-true (g + 1) q bounds.1);
      log = λ x pos l. found g h.1 x pos l;
    }
  where
    found : (g : ℕ) → generates mul q g ≡ true → (x : ℕ) → 0 < x → x < q → (i : ℕ) × (i < q - 1) × (power mul g i ≡ x)
    found g t x pos l =
        let among : is_among x (powers_from mul g 1 (q - 1)) ≡ true = subst (λ y. is_among y (powers_from mul g 1 (q - 1)) ≡ true) (let s : 1 + (x - 1) ≡ x = omega arith in s)
        (passes_below (λ y. is_among y (powers_from mul g 1 (q - 1))) (q - 1 + 1 - 1) (λ i. 1 + i) t (x - 1) (omega arith)) in
        let i = among_powers mul g (q - 1) 0 x among in
        (i.0, i.1, ap (power mul g) (let s : i.0 ≡ 0 + i.0 = omega arith in s) ∙ i.2)

pub listed_generator : (q : ℕ) → has_field q ≡ true → IsGenerator q (field_product q) (gen q)
unfolding gen modulus_of
listed_generator q h = by (modulus_of q) refl h
  where
    by : (o : Option Modulus) → modulus_of q ≡ o → is_some o ≡ true → IsGenerator q (field_product q) (least_in (field_product q) q)
    by None e h = absurd (let g = h in cc)
    by (Some s) e h =
        let known = modulus_known q s e in
        let found : first_in (λ s. order s == q) moduli ≡ Some s = e in
        good_generator (field_product q) q (subst (λ m. is_good m q ≡ true) (sym known.products) (subst (λ n. is_good (product_in (Some s)) n ≡ true) known.whole (first_in-each (λ s. order s == q) modulus_good moduli s moduli_good found).1))
