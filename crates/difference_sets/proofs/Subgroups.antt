-- The cosets of a subgroup of the nonzero elements of a field are a difference family; so are they with 0 in each, and half of
-- them, where the negative of 1 is outside the subgroup.
use Rattle.std.proofs.Common.{length, ◌∷◌, ap, ap₂, arith, inl, inr, refl, suc, sym, zero, ℕ, ◌%◌, ◌*◌, ◌+◌, ◌-◌, ◌/◌, ◌<◌, ◌==◌, ◌∙◌, ◌≡◌, ◌≢◌}
use Rattle.std.proofs.Math.Nat.{div-add-mod', mod-lt, mul-le-mul_left, pos_of_ne-zero}
use Rattle.counting.proofs.Booleans.{bool_same, cases_eq, eq-eqb, eqb-true}
use Rattle.std.proofs.lemmas.List.Elements.{All-from_recursion}
use Rattle.std.specs.List.{AllByRecursion}
use Rattle.counting.proofs.Counts.{count_none, one-false, sum_below-add, sum_below-const, sum_below-same, sum_below-turn}
use Rattle.counting.proofs.Ranges.{each_below, length-list_below}
use Rattle.counting.proofs.Residues.{add_cancels}
use Rattle.counting.specs.Sums.{one, sum_below}
use Rattle.design_base.proofs.Canonical.{Differs, IsPointSet, differs_below}
use Rattle.design_base.specs.Rings.{IsField}
use Rattle.field_tables.proofs.AnyField.{distribute_right, lines_meet, lines_meet_once, mul-zero, mul_cancel, sums_left, add_cancel}
use Rattle.field_tables.specs.Powers.{power}
use Rattle.difference_sets.specs.Families.{coset, cosets}
use Rattle.field_tables.proofs.GeneratorPowers.{IsGenerator, one_power, power-add, power-order, power-turns, power_below, power_positive, powers_apart}
use Rattle.difference_sets.proofs.Rows.{IsLooseDf, differences-rows, row_pairs, row_pairs-cons}
use Rattle.counting.proofs.Totals.{sum_below-grid, sum_below-moved, sum_by-list_below}
use Rattle.counting.proofs.ButOne.{sum_below-plus}

all_but_first : (n : ℕ) (h : ℕ → ℕ) → h 0 ≡ 0 → ((m : ℕ) → 0 < m → m < n → h m ≡ 1) → sum_below n h ≡ n - 1
unfolding sum_below
all_but_first zero h none each = refl
all_but_first (suc n) h none each = ap (λ t. sum_below t h) (let e : suc n ≡ 1 + n = omega arith in e)
    ∙ omega (arith, sum_below-plus 1 n h, none, sum_below-same n (λ m. h (1 + m)) (λ m. 1) (λ m l. each (1 + m) (omega arith) (omega arith)), sum_below-const n 1)

module _ (q : ℕ) (add mul : ℕ → ℕ → ℕ) (field : IsField q add mul) (g : ℕ) (generator : IsGenerator q mul g) where
  abbrev pow : ℕ → ℕ
  pow = power mul g

  small : (t : ℕ) → pow t < q
  small = power_below q add mul field g generator

  -- x + d is x * r for one x but 0
  one_ratio : (r d : ℕ) → r < q → r ≢ 1 → 0 < d → d < q → sum_below (q - 1) (λ t. one (add (pow t) d == mul (pow t) r)) ≡ 1
  one_ratio r d hr ne pos hd =
      let zero_small : 0 < q = omega (arith, field.ring.one_below) in
      let met = lines_meet q add mul field.ring field.inverses r 1 0 d hr field.ring.one_below zero_small hd ne in
      one_power q add mul field g generator (λ y. add y d == mul y r) met.0
      (pos_of_ne-zero (λ e. absurd (omega (arith, at_zero met.0 e (to_ratio met.0 met.1 met.2))))) met.1 (eq-eqb _ _ (to_ratio met.0 met.1 met.2))
      (λ y p l e. lines_meet_once q add mul field.ring field.inverses r 1 0 d hr field.ring.one_below zero_small hd ne y met.0 l met.1 (from_ratio y l (eqb-true _ _ e)) met.2)
    where
      left : (y : ℕ) → add (mul r y) 0 ≡ mul y r
      left y = field.ring.zero_neutral (mul r y) (field.ring.products_below r y) ∙ field.ring.products_commute r y

      right : (y : ℕ) → y < q → add (mul 1 y) d ≡ add y d
      right y l = ap (λ t. add t d) (field.ring.products_commute 1 y ∙ field.ring.one_neutral y l)

      to_ratio : (y : ℕ) → y < q → add (mul r y) 0 ≡ add (mul 1 y) d → add y d ≡ mul y r
      to_ratio y l e = sym (right y l) ∙ sym e ∙ left y

      from_ratio : (y : ℕ) → y < q → add y d ≡ mul y r → add (mul r y) 0 ≡ add (mul 1 y) d
      from_ratio y l e = left y ∙ sym e ∙ sym (right y l)

      at_zero : (x : ℕ) → x ≡ 0 → add x d ≡ mul x r → d ≡ 0
      at_zero x e f = sym (field.ring.zero_neutral d hd) ∙ field.ring.sums_commute d 0 ∙ ap (λ t. add t d) (sym e) ∙ f
          ∙ ap (λ t. mul t r) e ∙ field.ring.products_commute 0 r ∙ mul-zero q add mul field.ring r

  module _ (e f : ℕ) (whole : e * f ≡ q - 1) (d : ℕ) (pos : 0 < d) (hd : d < q) where
    -- the elements of a coset, from one of them on
    pub turned : (i j m : ℕ) → pow (i + e * ((j + m) % f)) ≡ pow (i + e * j + e * m)
    turned i j m =
        sym (power-turns q add mul field g generator (i + e * ((j + m) % f)) ((j + m) / f))
        ∙ ap pow (omega (arith, ap (λ t. t * ((j + m) / f)) (sym whole), ap (λ t. e * t) (div-add-mod' (j + m) f)))

    cyclic : (j : ℕ) (h : ℕ → ℕ) → sum_below f (λ m. h ((j + m) % f)) ≡ sum_below f h
    cyclic j h = sum_below-moved f (λ m. (j + m) % f) h (λ m l. mod-lt (j + m) (omega arith)) (λ a b l m e. add_cancels f j a b l m e)

    coset_pairs : (i : ℕ) → row_pairs add d (coset mul g e f i) ≡ sum_below f (λ j. sum_below f (λ m. one (add (pow (i + e * j)) d == pow (i + e * m))))
    unfolding row_pairs coset
    coset_pairs i = sum_by-list_below _ f (λ j. pow (i + e * j)) ∙ sum_below-same f _ _ (λ j l. sum_by-list_below _ f (λ m. pow (i + e * m)))

    ratios : (i : ℕ) → row_pairs add d (coset mul g e f i) ≡ sum_below f (λ j. sum_below f (λ m. one (add (pow (i + e * j)) d == mul (pow (i + e * j)) (pow (e * m)))))
    ratios i = coset_pairs i ∙ sum_below-same f _ _ (λ j l. sym (cyclic j (λ m. one (add (pow (i + e * j)) d == pow (i + e * m))))
        ∙ sum_below-same f _ _ (λ m l. ap (λ t. one (add (pow (i + e * j)) d == t)) (turned i j m ∙ power-add q add mul field g generator (i + e * j) (e * m))))

    abbrev with_ratio : ℕ → ℕ
    with_ratio m = sum_below (q - 1) (λ t. one (add (pow t) d == mul (pow t) (pow (e * m))))

    of_first : with_ratio 0 ≡ 0
    unfolding power
    of_first = count_none (q - 1) (λ t. add (pow t) d == mul (pow t) (pow (e * 0))) (λ t l h.
        let same : add (pow t) d ≡ add (pow t) 0 = eqb-true _ _ h ∙ ap (λ z. mul (pow t) (pow z)) (let z : e * 0 ≡ 0 = omega arith in z) ∙ field.ring.one_neutral (pow t) (small t) ∙ sym (field.ring.zero_neutral (pow t) (small t)) in
        absurd (omega (arith, add_cancel q add mul field.ring (pow t) d 0 hd (omega arith) same)))

    some : 0 < e
    some = pos_of_ne-zero (λ z. absurd (omega (arith, ap (λ t. t * f) z, field.ring.one_below)))

    inside : (i j : ℕ) → i < e → j < f → i + e * j < q - 1
    inside i j l m = omega (arith, mul-le-mul_left e m)

    not_one : (m : ℕ) → 0 < m → m < f → pow (e * m) ≢ 1
    unfolding power
    not_one m p l h =
        let z : e * m ≡ 0 = powers_apart q add mul field g generator (e * m) 0 (omega (arith, inside 0 m some l)) (omega (arith, inside 0 m some l)) h in
        absurd (omega (arith, some, mul-le-mul_left e p))

    of_other : (m : ℕ) → 0 < m → m < f → with_ratio m ≡ 1
    of_other m p l = one_ratio (pow (e * m)) d (small (e * m)) (not_one m p l) pos hd

    pub all_pairs : sum_below e (λ i. row_pairs add d (coset mul g e f i)) ≡ f - 1
    all_pairs =
        sum_below-same e _ _ (λ i l. ratios i)
        ∙ sum_below-grid e f (λ t. sum_below f (λ m. one (add (pow t) d == mul (pow t) (pow (e * m)))))
        ∙ ap (λ n. sum_below n (λ t. sum_below f (λ m. one (add (pow t) d == mul (pow t) (pow (e * m)))))) whole
        ∙ sum_below-turn (q - 1) f (λ t m. one (add (pow t) d == mul (pow t) (pow (e * m))))
        ∙ all_but_first f with_ratio of_first of_other

    -- ---- with 0 in each row
    pub zero_pairs : sum_below e (λ i. row_pairs add d (0 ∷ coset mul g e f i)) ≡ f + 1
    unfolding coset
    zero_pairs =
        let f_some : 0 < f = pos_of_ne-zero (λ z. absurd (omega (arith, ap (λ t. e * t) z, whole, field.ring.one_below))) in
        omega (
          arith,
          f_some,
          sum_below-same e (λ i. row_pairs add d (0 ∷ coset mul g e f i)) (λ i. to_zero i + (from_zero i + rest i)) (λ i l. parts i),
          sum_below-add e to_zero (λ i. from_zero i + rest i),
          sum_below-add e from_zero rest,
          sum_below-grid e f (λ t. one (add 0 d == pow t)) ∙ ap (λ n. sum_below n (λ t. one (add 0 d == pow t))) whole
              ∙ one_power q add mul field g generator (λ y. add 0 d == y) d pos hd (eq-eqb _ _ start) (λ y p l t. sym (eqb-true _ _ t) ∙ start),
          sum_below-grid e f (λ t. one (add (pow t) d == 0)) ∙ ap (λ n. sum_below n (λ t. one (add (pow t) d == 0))) whole
              ∙ one_power q add mul field g generator (λ x. add x d == 0) opposite_of.0 (pos_of_ne-zero not_zero) opposite_of.1 (eq-eqb _ _ (field.ring.sums_commute opposite_of.0 d ∙ opposite_of.2))
              (λ y p l t. add_cancel q add mul field.ring d y opposite_of.0 l opposite_of.1 (field.ring.sums_commute d y ∙ eqb-true _ _ t ∙ sym opposite_of.2)),
          all_pairs,
        )
      where
        start : add 0 d ≡ d
        start = field.ring.sums_commute 0 d ∙ field.ring.zero_neutral d hd

        opposite_of : (y : ℕ) × (y < q) × (add d y ≡ 0)
        opposite_of = field.ring.negatives d

        not_zero : opposite_of.0 ≢ 0
        not_zero n = absurd (omega (arith, sym (field.ring.zero_neutral d hd) ∙ ap (add d) (sym n) ∙ opposite_of.2))

        to_zero : ℕ → ℕ
        to_zero i = sum_below f (λ j. one (add 0 d == pow (i + e * j)))

        from_zero : ℕ → ℕ
        from_zero i = sum_below f (λ j. one (add (pow (i + e * j)) d == 0))

        rest : ℕ → ℕ
        rest i = row_pairs add d (coset mul g e f i)

        parts : (i : ℕ) → row_pairs add d (0 ∷ coset mul g e f i) ≡ to_zero i + (from_zero i + rest i)
        parts i = row_pairs-cons add d 0 (coset mul g e f i) ∙ omega (
          arith,
          one-false (add 0 d == 0) (λ t. absurd (omega (arith, eqb-true _ _ t, start))),
          sum_by-list_below (λ y. one (add 0 d == y)) f (λ j. pow (i + e * j)),
          sum_by-list_below (λ x. one (add x d == 0)) f (λ j. pow (i + e * j)),
        )

    -- ---- half of the rows
    module _ (h s : ℕ) (halves : e ≡ h + h) (odd : f ≡ s + s + 1) where
      abbrev z : ℕ
      z = pow (h * f)

      square : mul z z ≡ 1
      square = sym (power-add q add mul field g generator (h * f) (h * f)) ∙ ap pow (omega (arith, ap (λ t. t * f) halves, whole)) ∙ power-order q add mul field g generator

      opposite : add z 1 ≡ 0
      unfolding power
      opposite = elim (cases_eq (add z 1) 0) [
        | inl none ↦ none
        | inr ne ↦
            let a : ℕ = add z 1 in
            let same : z ≡ 1 = mul_cancel q add mul field.ring field.inverses a z 1 (pos_of_ne-zero ne) (field.ring.sums_below z 1) (small (h * f)) field.ring.one_below
            (field.ring.products_commute a z ∙ field.ring.products_distribute z z 1 ∙ ap₂ add square (field.ring.one_neutral z (small (h * f)))
            ∙ field.ring.sums_commute 1 z ∙ sym (field.ring.one_neutral a (field.ring.sums_below z 1))) in
            let two : h * f + h * f ≡ q - 1 = omega (arith, ap (λ t. t * f) halves, whole) in
            absurd (omega (arith, two, field.ring.one_below, powers_apart q add mul field g generator (h * f) 0 (omega (arith, field.ring.one_below)) (omega (arith, field.ring.one_below)) same))
      ]

      negative : (x : ℕ) → x < q → add x (mul x z) ≡ 0
      negative x l = ap (λ t. add t (mul x z)) (sym (field.ring.one_neutral x l)) ∙ sym (field.ring.products_distribute x 1 z) ∙ ap (mul x) (field.ring.sums_commute 1 z ∙ opposite) ∙ mul-zero q add mul field.ring x

      -- x and y apart by d, and their negatives
      swapped : (x y : ℕ) → x < q → y < q → (add (mul x z) d == mul y z) ≡ (add y d == x)
      swapped x y l m = bool_same _ _ (λ t. eq-eqb _ _ (there (eqb-true _ _ t))) (λ t. eq-eqb _ _ (back (eqb-true _ _ t)))
        where
          there : add (mul x z) d ≡ mul y z → add y d ≡ x
          there t =
              sym (field.ring.zero_neutral (add y d) (field.ring.sums_below y d)) ∙ field.ring.sums_commute (add y d) 0 ∙ ap (λ w. add w (add y d)) (sym (negative x l))
              ∙ field.ring.sums_associate x (mul x z) (add y d) ∙ ap (add x) (sums_left q add mul field.ring (mul x z) y d ∙ ap (add y) t ∙ negative y m)
              ∙ field.ring.zero_neutral x l

          back : add y d ≡ x → add (mul x z) d ≡ mul y z
          back t =
              ap (λ w. add w d) (ap (λ w. mul w z) (sym t) ∙ distribute_right q add mul field.ring y d z) ∙ field.ring.sums_associate (mul y z) (mul d z) d
              ∙ ap (add (mul y z)) (field.ring.sums_commute (mul d z) d ∙ negative d hd) ∙ field.ring.zero_neutral (mul y z) (field.ring.products_below y z)

      other_half : (i : ℕ) → row_pairs add d (coset mul g e f (h + i)) ≡ row_pairs add d (coset mul g e f i)
      other_half i =
          coset_pairs (h + i)
          ∙ sym (cyclic s (λ j. sum_below f (λ m. one (add (pow (h + i + e * j)) d == pow (h + i + e * m)))))
          ∙ sum_below-same f _ _ (λ j l. sym (cyclic s (λ m. one (add (pow (h + i + e * ((s + j) % f))) d == pow (h + i + e * m))))
          ∙ sum_below-same f _ _ (λ m n. ap₂ (λ x y. one (add x d == y)) (negated j) (negated m) ∙ ap one (swapped (pow (i + e * j)) (pow (i + e * m)) (small (i + e * j)) (small (i + e * m)))))
          ∙ sum_below-turn f f (λ j m. one (add (pow (i + e * m)) d == pow (i + e * j)))
          ∙ sym (coset_pairs i)
        where
          negated : (j : ℕ) → pow (h + i + e * ((s + j) % f)) ≡ mul (pow (i + e * j)) z
          negated j = turned (h + i) s j ∙ ap pow (omega (arith, ap (λ t. t * s) halves, ap (λ t. h * t) odd)) ∙ power-add q add mul field g generator (i + e * j) (h * f)

      pub half_pairs : sum_below h (λ i. row_pairs add d (coset mul g e f i)) ≡ s
      half_pairs = omega (
        arith,
        all_pairs,
        ap (λ t. sum_below t (λ i. row_pairs add d (coset mul g e f i))) halves,
        sum_below-plus h h (λ i. row_pairs add d (coset mul g e f i)),
        sum_below-same h _ _ (λ i l. other_half i),
      )

  -- ---- blocks
  module _ (e f : ℕ) (whole : e * f ≡ q - 1) where
    within : (i j : ℕ) → i < e → j < f → i + e * j < q - 1
    within i j l m = omega (arith, mul-le-mul_left e m)

    coset_below : (i : ℕ) → AllByRecursion (λ x. x < q) (coset mul g e f i)
    unfolding coset
    coset_below i = each_below (λ x. x < q) f (λ j. pow (i + e * j)) (λ j l. small (i + e * j))

    coset_length : (i : ℕ) → length (coset mul g e f i) ≡ f
    unfolding coset
    coset_length i = length-list_below f (λ j. pow (i + e * j))

    coset_differs : (i : ℕ) → i < e → Differs (coset mul g e f i)
    unfolding coset
    coset_differs i l = differs_below f (λ j. pow (i + e * j)) (λ a b m n t.
        let same : i + e * a ≡ i + e * b = powers_apart q add mul field g generator (i + e * a) (i + e * b) (within i a l (omega arith)) (within i b l n) t in
        absurd (omega (arith, mul-le-mul_left e m)))

    coset_set : (i : ℕ) → i < e → IsPointSet q (λ s. s ≡ f) (coset mul g e f i)
    coset_set i l = record { differs = coset_differs i l; below = coset_below i; size = coset_length i }

    coset0_set : (i : ℕ) → i < e → IsPointSet q (λ s. s ≡ f + 1) (0 ∷ coset mul g e f i)
    unfolding coset
    coset0_set i l = record {
      differs = (each_below (λ y. 0 ≢ y) f (λ j. pow (i + e * j)) (λ j m t. absurd (omega (arith, power_positive q add mul field g generator (i + e * j)))), coset_differs i l);
      below = (omega (arith, field.ring.one_below), coset_below i);
      size = omega (arith, coset_length i);
    }

    pub cosets_are_family : IsLooseDf (cosets mul g 0 e f e) add q f (f - 1)
    unfolding cosets
    cosets_are_family = record {
      blocks = All-from_recursion (IsPointSet q (λ s. s ≡ f)) _ (each_below (IsPointSet q (λ s. s ≡ f)) e (coset mul g e f) coset_set);
      each = λ d pos hd. differences-rows add _ d ∙ sum_by-list_below (row_pairs add d) e (coset mul g e f) ∙ all_pairs e f whole d pos hd;
    }

    pub cosets0_are_family : IsLooseDf (cosets mul g 1 e f e) add q (f + 1) (f + 1)
    unfolding cosets
    cosets0_are_family = record {
      blocks = All-from_recursion (IsPointSet q (λ s. s ≡ f + 1)) _ (each_below (IsPointSet q (λ s. s ≡ f + 1)) e (λ i. 0 ∷ coset mul g e f i) coset0_set);
      each = λ d pos hd. differences-rows add _ d ∙ sum_by-list_below (row_pairs add d) e (λ i. 0 ∷ coset mul g e f i) ∙ zero_pairs e f whole d pos hd;
    }

    pub half_cosets_are_family : (h s : ℕ) → e ≡ h + h → f ≡ s + s + 1 → IsLooseDf (cosets mul g 0 e f h) add q f s
    unfolding cosets
    half_cosets_are_family h s halves odd = record {
      blocks = All-from_recursion (IsPointSet q (λ s. s ≡ f)) _ (each_below (IsPointSet q (λ s. s ≡ f)) h (coset mul g e f) (λ i l. coset_set i (omega (arith, halves))));
      each = λ d pos hd. differences-rows add _ d ∙ sum_by-list_below (row_pairs add d) h (coset mul g e f) ∙ half_pairs e f whole d pos hd h s halves odd;
    }
