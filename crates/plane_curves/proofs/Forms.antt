-- The quadratic form x ^ 2 + x * y + c * y ^ 2 over a field in which 1 + 1 is 0, where x ^ 2 + x + c has no root.
use Rattle.std.proofs.Common.{ap, ap₂, arith, inl, inr, refl, subst, sym, ℕ, ◌*◌, ◌+◌, ◌-◌, ◌<◌, ◌==◌, ◌∙◌, ◌≡◌, ◌≢◌, ◌≤◌, ◌⊎◌}
use Rattle.std.proofs.Math.Nat.{pos_of_ne-zero}
use Rattle.counting.proofs.Booleans.{bool_same, cases_Bool, cases_eq, cases_lt, eq-eqb, eqb-true, false≢true, lt-ltb, ltb-true}
use Rattle.std.specs.Prelude.{nat_lt}
use Rattle.counting.proofs.Counts.{count_none, count_one, one-false, one-true, sum_below-add, sum_below-const, sum_below-le, sum_below-same, sum_below-turn, sum_below-zero}
use Rattle.counting.specs.Sums.{one, sum_below}
use Rattle.design_base.specs.Rings.{IsField}
use Rattle.field_tables.proofs.AnyField.{field_laws}
use Rattle.spaces.proofs.LinearSpaces.{least_below}
use Rattle.plane_curves.specs.Curves.{quadratic}
use Rattle.counting.proofs.ButOne.{sum_below-plus}
use Rattle.counting.proofs.Totals.{count_few, each_most, sum_below-moved, sum_below-single}

module _ (q : ℕ) (add mul : ℕ → ℕ → ℕ) (field : IsField q add mul) (two : add 1 1 ≡ 0) where
  open field use {ring as r}
  open field_laws q add mul field use {distribute_right, divide, divide_once, mul-zero, mul_cancel, no_zero_divisors, products_left, sums_left, zero_below}

  double : (x : ℕ) → x < q → add x x ≡ 0
  double x l = ap₂ add (sym (r.one_neutral x l)) (sym (r.one_neutral x l)) ∙ sym (r.products_distribute x 1 1) ∙ ap (mul x) two ∙ mul-zero x

  -- what is added twice is gone
  again : (x y : ℕ) → x < q → y < q → add x (add x y) ≡ y
  again x y l m = sym (r.sums_associate x x y) ∙ ap (λ t. add t y) (double x l) ∙ r.sums_commute 0 y ∙ r.zero_neutral y m

  same_from_zero : (x y : ℕ) → x < q → y < q → add x y ≡ 0 → x ≡ y
  same_from_zero x y l m e = sym (r.zero_neutral x l) ∙ ap (add x) (sym e) ∙ again x y l m

  square_sum : (x y : ℕ) → mul (add x y) (add x y) ≡ add (mul x x) (mul y y)
  square_sum x y =
      r.products_distribute (add x y) x y ∙ ap₂ add (distribute_right x y x) (distribute_right x y y)
      ∙ r.sums_associate (mul x x) (mul y x) (add (mul x y) (mul y y))
      ∙ ap (add (mul x x)) (ap (λ t. add t (add (mul x y) (mul y y))) (r.products_commute y x) ∙ again (mul x y) (mul y y) (r.products_below x y) (r.products_below y y))

  mixed : (a b t x y : ℕ) → mul (add a (mul t x)) (add b (mul t y)) ≡ add (mul a b) (add (mul t (add (mul a y) (mul b x))) (mul (mul t t) (mul x y)))
  mixed a b t x y = simp (r.products_distribute, distribute_right, r.products_associate, r.products_commute, products_left, r.sums_associate, r.sums_commute, sums_left)

  module _ (c : ℕ) where
    abbrev form : ℕ → ℕ → ℕ
    form = quadratic add mul c

    form_below : (x y : ℕ) → form x y < q
    unfolding quadratic
    form_below x y = r.sums_below (mul x x) (add (mul x y) (mul c (mul y y)))

    -- along a line
    slope : ℕ → ℕ → ℕ → ℕ → ℕ
    slope a b x y = add (mul a y) (mul b x)

    -- the part that is additive in t
    bend : ℕ → ℕ → ℕ → ℕ
    bend s d t = add (mul t s) (mul (mul t t) d)

    along : (a b x y t : ℕ) → form (add a (mul t x)) (add b (mul t y)) ≡ add (form a b) (bend (slope a b x y) (form x y) t)
    unfolding quadratic slope bend
    along a b x y t =
        ap₂ add (square_sum a (mul t x)) (ap₂ add (mixed a b t x y) (ap (mul c) (square_sum b (mul t y))))
        ∙ simp (r.products_distribute, distribute_right, r.products_associate, r.products_commute, products_left, r.sums_associate, r.sums_commute, sums_left)

    bend_below : (s d t : ℕ) → bend s d t < q
    unfolding bend
    bend_below s d t = r.sums_below (mul t s) (mul (mul t t) d)

    bend-add : (s d t u : ℕ) → bend s d (add t u) ≡ add (bend s d t) (bend s d u)
    unfolding bend
    bend-add s d t u =
        ap (λ w. add (mul (add t u) s) (mul w d)) (square_sum t u)
        ∙ simp (r.products_distribute, distribute_right, r.products_associate, r.products_commute, products_left, r.sums_associate, r.sums_commute, sums_left)

    bend-factor : (s d t : ℕ) → bend s d t ≡ mul t (add s (mul t d))
    unfolding bend
    bend-factor s d t = simp (r.products_distribute, r.products_associate)

    -- two values are one where the sum of their arguments has the value 0
    bend_same : (s d t u : ℕ) → bend s d t ≡ bend s d u → bend s d (add t u) ≡ 0
    bend_same s d t u e = bend-add s d t u ∙ ap (λ w. add w (bend s d u)) e ∙ double (bend s d u) (bend_below s d u)

    module _ (M : ℕ) (small : M ≤ q) (closed : (x y : ℕ) → x < M → y < M → add x y < M) where
      among : ℕ → ℕ
      among x = one (nat_lt x M)

      count_below : sum_below q among ≡ M
      unfolding among
      count_below = ap (λ n. sum_below n (λ x. one (nat_lt x M))) (let e : q ≡ M + (q - M) = omega arith in e) ∙ omega (
        arith,
        sum_below-plus M (q - M) (λ x. one (nat_lt x M)),
        sum_below-same M (λ x. one (nat_lt x M)) (λ x. 1) (λ x l. one-true (nat_lt x M) (lt-ltb x M l)),
        sum_below-const M 1,
        sum_below-zero (q - M) (λ x. one (nat_lt (M + x) M)) (λ x l. one-false (nat_lt (M + x) M) (λ e. absurd (omega (arith, ltb-true (M + x) M e)))),
      )

      -- a number is below M, or none of those below M
      among_sum : (x : ℕ) → sum_below M (λ h. one (x == h)) ≡ among x
      unfolding among
      among_sum x = elim (cases_lt x M) [
        | inl l ↦ count_one M x (λ h. x == h) l (eq-eqb x x refl) (λ i m e. sym (eqb-true x i e)) ∙ sym (one-true (nat_lt x M) (lt-ltb x M l))
        | inr l ↦ count_none M (λ h. x == h) (λ i m e. absurd (omega (arith, eqb-true x i e))) ∙ sym (one-false (nat_lt x M) (λ e. absurd (omega (arith, ltb-true x M e))))
      ]

      -- adding one of them does not take out
      among_moved : (a x : ℕ) → a < M → x < q → among (add a x) ≡ among x
      unfolding among
      among_moved a x la lx = ap one (bool_same _ _
          (λ e. lt-ltb x M (subst (λ t. t < M) (again a x (omega arith) lx) (closed a (add a x) la (ltb-true (add a x) M e))))
          (λ e. lt-ltb (add a x) M (closed a x la (ltb-true x M e))))

      -- where all values differ, M arguments have a value below M
      each_value : (f : ℕ → ℕ) → ((t : ℕ) → t < q → f t < q) → ((t u : ℕ) → t < q → u < q → f t ≡ f u → t ≡ u) → sum_below q (λ t. among (f t)) ≡ M
      each_value f below apart = sum_below-moved q f among below apart ∙ count_below

      module _ (s d : ℕ) (hs : s < q) (hd : d < q) (some : 0 < d) where
        root : (t : ℕ) → t < q → bend s d t ≡ 0 → (t ≡ 0) ⊎ (mul d t ≡ s)
        root t l e = elim (no_zero_divisors t (add s (mul t d)) l (r.sums_below s (mul t d)) (sym (bend-factor s d t) ∙ e)) [
          | inl none ↦ inl none
          | inr sum ↦ inr (r.products_commute d t ∙ sym (same_from_zero s (mul t d) hs (r.products_below t d) sum))
        ]

        -- without the linear part all values differ
        squares : s ≡ 0 → sum_below q (λ t. among (bend s d t)) ≡ M
        squares none = each_value (bend s d) (λ t l. bend_below s d t) (λ t u l m e.
            same_from_zero t u l m (only (add t u) (r.sums_below t u) (bend_same s d t u e)))
          where
            only : (t : ℕ) → t < q → bend s d t ≡ 0 → t ≡ 0
            only t l e = elim (root t l e) [
              | inl z ↦ z
              | inr z ↦ elim (no_zero_divisors d t hd l (z ∙ none)) [ inl f ↦ absurd (omega arith) | inr f ↦ f ]
            ]

        -- a is no value of the additive part
        module _ (a : ℕ) (ha : a < M) (apart : (t : ℕ) → t < q → bend s d t ≢ a) where
          -- the other argument with the value 0
          other : (k : ℕ) × (k < q) × (mul d k ≡ s)
          other = divide d s some hd hs

          in_fibre : (t u : ℕ) → t < q → u < q → bend s d t ≡ bend s d u → (u ≡ t) ⊎ (add u other.0 ≡ t)
          in_fibre t u l m e = elim (root (add t u) (r.sums_below t u) (bend_same s d t u e)) [
            | inl z ↦ inl (sym (same_from_zero t u l m z))
            | inr z ↦ inr (ap (add u) (sym (divide_once d s (add t u) other.0 some hd (r.sums_below t u) other.1 z other.2) ∙ r.sums_commute t u) ∙ again u t m l)
          ]

          fibre : (y : ℕ) → sum_below q (λ t. one (bend s d t == y)) ≤ 2
          fibre y = elim (least_below (λ t. bend s d t == y) q) [
            | inl none ↦ omega (arith, count_none q (λ t. bend s d t == y) none)
            | inr u ↦ omega (
              arith,
              sum_below-le q (λ t. one (bend s d t == y)) (λ t. one (u.0 == t) + one (add u.0 other.0 == t)) (λ t l. single t u.0 l u.1 (eqb-true _ _ u.2)),
              sum_below-add q (λ t. one (u.0 == t)) (λ t. one (add u.0 other.0 == t)),
              count_few q u.0,
              count_few q (add u.0 other.0),
            )
          ]
            where
              single : (t u : ℕ) → t < q → u < q → bend s d u ≡ y → one (bend s d t == y) ≤ one (u == t) + one (add u other.0 == t)
              single t u l m e = elim (cases_Bool (bend s d t == y)) [
                | inr f ↦ omega (arith, one-false (bend s d t == y) (λ g. false≢true (sym f ∙ g)))
                | inl f ↦ elim (in_fibre t u l m (eqb-true _ _ f ∙ sym e)) [
                  | inl g ↦ omega (arith, one-true (bend s d t == y) f, one-true (u == t) (eq-eqb u t g))
                  | inr g ↦ omega (arith, one-true (bend s d t == y) f, one-true (add u other.0 == t) (eq-eqb (add u other.0) t g))
                ]
              ]

          either : ℕ → ℕ
          either y = sum_below q (λ t. one (bend s d t == y)) + sum_below q (λ t. one (add a (bend s d t) == y))

          a_small : a < q
          a_small = omega arith

          either_few : (y : ℕ) → y < q → either y ≤ 2
          unfolding either
          either_few y ly = elim (least_below (λ t. bend s d t == y) q) [
            | inl none ↦ omega (
              arith,
              count_none q (λ t. bend s d t == y) none,
              sum_below-same q (λ t. one (add a (bend s d t) == y)) (λ t. one (bend s d t == add a y)) (λ t l. ap one (bool_same _ _
                  (λ e. eq-eqb _ _ (sym (again a (bend s d t) a_small (bend_below s d t)) ∙ ap (add a) (eqb-true _ _ e)))
                  (λ e. eq-eqb _ _ (ap (add a) (eqb-true _ _ e) ∙ again a y a_small ly)))),
              fibre (add a y),
            )
            | inr u ↦ omega (
              arith,
              fibre y,
              count_none q (λ t. add a (bend s d t) == y) (λ t l e.
                  apart (add t u.0) (r.sums_below t u.0) (bend-add s d t u.0
                  ∙ ap (add (bend s d t)) (eqb-true _ _ u.2 ∙ sym (eqb-true _ _ e) ∙ r.sums_commute a (bend s d t)) ∙ again (bend s d t) a (bend_below s d t) a_small)),
            )
          ]

          each_argument : (f : ℕ → ℕ) → ((t : ℕ) → f t < q) → sum_below q (λ y. sum_below q (λ t. one (f t == y))) ≡ q
          each_argument f below =
              sum_below-turn q q (λ y t. one (f t == y))
              ∙ sum_below-same q _ (λ t. 1) (λ t l. count_one q (f t) (λ y. f t == y) (below t) (eq-eqb _ _ refl) (λ y m e. sym (eqb-true _ _ e)))
              ∙ sum_below-const q 1 ∙ omega arith

          two_each : (y : ℕ) → y < q → either y ≡ 2
          unfolding either
          two_each = each_most q 2 either either_few (omega (
            arith,
            total,
          ))
            where
              total : sum_below q either ≡ q + q
              total = sum_below-add q (λ y. sum_below q (λ t. one (bend s d t == y))) (λ y. sum_below q (λ t. one (add a (bend s d t) == y)))
                  ∙ ap₂ (λ m n. m + n) (each_argument (bend s d) (bend_below s d)) (each_argument (λ t. add a (bend s d t)) (λ t. r.sums_below a (bend s d t)))

          counted : (f : ℕ → ℕ) → sum_below M (λ y. sum_below q (λ t. one (f t == y))) ≡ sum_below q (λ t. among (f t))
          counted f = sum_below-turn M q (λ y t. one (f t == y)) ∙ sum_below-same q _ (λ t. among (f t)) (λ t l. among_sum (f t))

          half : sum_below q (λ t. among (bend s d t)) ≡ M
          unfolding either
          half = omega (
            arith,
            sum_below-same M either (λ y. 2) (λ y l. two_each y (omega arith)),
            sum_below-const M 2,
            sum_below-add M (λ y. sum_below q (λ t. one (bend s d t == y))) (λ y. sum_below q (λ t. one (add a (bend s d t) == y))),
            counted (bend s d),
            counted (λ t. add a (bend s d t)),
            sum_below-same q (λ t. among (add a (bend s d t))) (λ t. among (bend s d t)) (λ t l. among_moved a (bend s d t) ha (bend_below s d t)),
          )

      module _ (hc : c < q) (no_root : (x : ℕ) → x < q → add (mul x x) (add x c) ≢ 0) where
        abbrev curved : ℕ → ℕ
        curved u = add (mul u u) (add u c)

        times_square : (y u : ℕ) → form (mul y u) y ≡ mul (mul y y) (curved u)
        unfolding quadratic
        times_square y u = simp (r.products_distribute, distribute_right, r.products_associate, r.products_commute, products_left, r.sums_associate, r.sums_commute, sums_left)

        form_first : (x : ℕ) → form x 0 ≡ mul x x
        unfolding quadratic
        form_first x =
            ap₂ (λ m n. add (mul x x) (add m (mul c n))) (mul-zero x) (mul-zero 0)
            ∙ ap (add (mul x x)) (ap (add 0) (mul-zero c) ∙ r.zero_neutral 0 zero_below) ∙ r.zero_neutral (mul x x) (r.products_below x x)

        square_zero : (x : ℕ) → x < q → mul x x ≡ 0 → x ≡ 0
        square_zero x l e = elim (no_zero_divisors x x l l e) [ inl f ↦ f | inr f ↦ f ]

        -- the form has the value 0 at (0, 0) alone
        anisotropic : (x y : ℕ) → x < q → y < q → form x y ≡ 0 → (x ≡ 0) × (y ≡ 0)
        anisotropic x y lx ly e = elim (cases_eq y 0) [
          | inl z ↦ (square_zero x lx (sym (form_first x) ∙ ap (form x) (sym z) ∙ e), z)
          | inr ne ↦
              let u = divide y x (pos_of_ne-zero ne) ly lx in
              elim (no_zero_divisors (mul y y) (curved u.0) (r.products_below y y) (r.sums_below (mul u.0 u.0) (add u.0 c)) (sym (times_square y u.0) ∙ ap (λ t. form t y) u.2 ∙ e)) [
                | inl f ↦ absurd (ne (square_zero y ly f))
                | inr f ↦ absurd (no_root u.0 u.1 f)
              ]
        ]

        -- a line that holds one of the points holds M
        pub line_count : (a b x y : ℕ) → a < q → b < q → x < q → y < q → ((x ≡ 0) × (y ≡ 0) → ⊥) → form a b < M →
            sum_below q (λ t. one (nat_lt (form (add a (mul t x)) (add b (mul t y))) M)) ≡ M
        unfolding slope among
        line_count a b x y la lb lx ly ne inside =
            sum_below-same q _ (λ t. among (add (form a b) (bend s d t))) (λ t l. ap among (along a b x y t))
            ∙ sum_below-same q _ (λ t. among (bend s d t)) (λ t l. among_moved (form a b) (bend s d t) inside (bend_below s d t))
            ∙ elim (cases_eq s 0) [
              | inl z ↦ squares s d (r.sums_below (mul a y) (mul b x)) (form_below x y) some z
              | inr nz ↦ half s d (r.sums_below (mul a y) (mul b x)) (form_below x y) some (form a b) inside (λ t lt e. nz (through t lt e))
            ]
          where
            s : ℕ
            s = slope a b x y

            d : ℕ
            d = form x y

            some : 0 < d
            some = pos_of_ne-zero (λ e. ne (anisotropic x y lx ly e))

            through : (t : ℕ) → t < q → bend s d t ≡ form a b → s ≡ 0
            through t lt e =
                let none = anisotropic (add a (mul t x)) (add b (mul t y)) (r.sums_below a (mul t x)) (r.sums_below b (mul t y))
                (along a b x y t ∙ ap (add (form a b)) e ∙ double (form a b) (form_below a b)) in
                ap₂ (λ m n. add (mul m y) (mul n x)) (same_from_zero a (mul t x) la (r.products_below t x) none.0) (same_from_zero b (mul t y) lb (r.products_below t y) none.1)
                ∙ ap (λ w. add (mul (mul t x) y) w) (r.products_associate t y x ∙ ap (mul t) (r.products_commute y x) ∙ sym (r.products_associate t x y))
                ∙ double (mul (mul t x) y) (r.products_below (mul t x) y)

        module _ (some : 0 < M) where
          scaled_squares : (k : ℕ) → 0 < k → k < q → sum_below q (λ t. among (mul (mul t t) k)) ≡ M
          unfolding bend
          scaled_squares k pos l =
              sum_below-same q _ (λ t. among (bend 0 k t)) (λ t m. ap among (sym (ap (λ w. add w (mul (mul t t) k)) (mul-zero t) ∙ r.sums_commute 0 (mul (mul t t) k) ∙ r.zero_neutral (mul (mul t t) k) (r.products_below (mul t t) k))))
              ∙ squares 0 k zero_below l pos refl

          -- without the argument 0
          but_zero : (f : ℕ → ℕ) → sum_below q f ≡ f 0 + sum_below (q - 1) (λ y. f (1 + y))
          but_zero f = ap (λ n. sum_below n f) (let e : q ≡ 1 + (q - 1) = omega (arith, zero_below) in e) ∙ sum_below-plus 1 (q - 1) f ∙ ap (λ t. t + sum_below (q - 1) (λ y. f (1 + y))) (sum_below-single f)

          among_zero : among 0 ≡ 1
          unfolding among
          among_zero = one-true (nat_lt 0 M) (lt-ltb 0 M some)

          nonzero_squares : (k : ℕ) → 0 < k → k < q → sum_below (q - 1) (λ y. among (mul (mul (1 + y) (1 + y)) k)) ≡ M - 1
          nonzero_squares k pos l = omega (
            arith,
            but_zero (λ y. among (mul (mul y y) k)),
            scaled_squares k pos l,
            ap among (ap (λ w. mul w k) (mul-zero 0) ∙ r.products_commute 0 k ∙ mul-zero k) ∙ among_zero,
          )

          first_row : sum_below q (λ x. among (form x 0)) ≡ M
          first_row = sum_below-same q _ (λ x. among (mul (mul x x) 1)) (λ x l. ap among (form_first x ∙ sym (r.one_neutral (mul x x) (r.products_below x x)))) ∙ scaled_squares 1 (omega arith) r.one_below

          row : (y : ℕ) → 0 < y → y < q → sum_below q (λ x. among (form x y)) ≡ sum_below q (λ u. among (mul (mul y y) (curved u)))
          row y pos l =
              sym (sum_below-moved q (mul y) (λ x. among (form x y)) (λ u m. r.products_below y u) (λ u w m n e. mul_cancel y u w pos l m n e))
              ∙ sum_below-same q _ _ (λ u m. ap among (times_square y u))

          -- how many points there are
          pub point_total : sum_below q (λ x. sum_below q (λ y. one (nat_lt (form x y) M))) ≡ M + q * (M - 1)
          unfolding among
          point_total =
              sum_below-turn q q (λ x y. among (form x y))
              ∙ but_zero (λ y. sum_below q (λ x. among (form x y)))
              ∙ omega (
                arith,
                first_row,
                sum_below-same (q - 1) _ (λ y. sum_below q (λ u. among (mul (mul (1 + y) (1 + y)) (curved u)))) (λ y l. row (1 + y) (omega arith) (omega arith)),
                sum_below-turn (q - 1) q (λ y u. among (mul (mul (1 + y) (1 + y)) (curved u))),
                sum_below-same q (λ u. sum_below (q - 1) (λ y. among (mul (mul (1 + y) (1 + y)) (curved u)))) (λ u. M - 1)
                    (λ u l. nonzero_squares (curved u) (pos_of_ne-zero (no_root u l)) (r.sums_below (mul u u) (add u c))),
                sum_below-const q (M - 1),
              )
