-- Parker's rows give an orthogonal array with four columns.
use Rattle.std.proofs.Common.{◌++◌, ◌≡◌, ℕ, zero, suc, ◌+◌, ◌-◌, ◌*◌, ◌/◌, ◌%◌, ◌<◌, ◌≤◌, ◌≢◌, List, [], ◌∷◌, ◌⊎◌, refl, ap, ap₂, subst, sym, ◌∙◌, arith, inl, inr, ◌==◌, ◌&&◌, get_or}
use Rattle.std.specs.Prelude.{All, nat_lt}
use Rattle.std.specs.List.{sum_by}
use Rattle.counting.proofs.Booleans.{cases_eq, cases_lt, eq-eqb, eqb-true}
use Rattle.std.proofs.lemmas.Bool.Decides.{nat_tests}
use Rattle.std.proofs.lemmas.List.Elements.{All-from_recursion, All-append}
use Rattle.std.proofs.lemmas.List.Sums.{sum_by-cons, sum_by-append}
use Rattle.counting.specs.Sums.{one, sum_below, join_below}
use Rattle.design_base.specs.Arrays.{agree, blocks_of_rows, IsRow, IsOa}
use Rattle.transversal.specs.Constructions.{base_rows, parker_rows, quadruple, raised, translate, translates_below}
use Rattle.counting.proofs.Counts.{sum_below-same, sum_below-zero, sum_below-at, count_one, one-true, one-false}
use Rattle.counting.proofs.Lists.{sum_by-join_below}
use Rattle.counting.proofs.Ranges.{All-join_below}
use Rattle.design_base.proofs.Rows.{agree-is, oa_from_pairs}
use Rattle.transversal.proofs.Raise.{raised_rows, raised_agree, raised_none}
use Rattle.transversal.proofs.Translates.{gap, gap_is, translations, translations_near, translations_second, translations_first, translations_none, translate_agree, translate_rows, translated_zero, translated_finite, translated_far}

-- the numbers of one column and of another, for x < m, differ by each number that is not 0 once, one way or the other
record Splits (m : ℕ) (a b : ℕ → ℕ) : Type 0 where
  small : (x : ℕ) → x < m → (a x < 2 * m + 1) × (b x < 2 * m + 1) × (a x ≢ b x)
  solves : (d : ℕ) → 0 < d → d < 2 * m + 1 → (x : ℕ) × (x < m) × ((gap (2 * m + 1) (a x) (b x) ≡ d) ⊎ (gap (2 * m + 1) (b x) (a x) ≡ d))
  unique : (x y : ℕ) → x < m → y < m → (gap (2 * m + 1) (a x) (b x) ≡ gap (2 * m + 1) (a y) (b y)) ⊎ (gap (2 * m + 1) (b x) (a x) ≡ gap (2 * m + 1) (b y) (a y)) → x ≡ y
  crossed : (x y : ℕ) → x < m → y < m → gap (2 * m + 1) (a x) (b x) ≢ gap (2 * m + 1) (b y) (a y)

-- 0 and i
splits_up : (m : ℕ) → Splits m (λ x. 0) (λ x. x + 1)
unfolding gap
splits_up m = record {
  small = λ x l. (omega arith, omega arith, omega arith);
  solves = λ d pos l. elim (cases_lt m d) [
    | inl a ↦ (2 * m - d, omega arith, inr (grind (arith, nat_tests)))
    | inr a ↦ (d - 1, omega arith, inl (grind (arith, nat_tests)))
  ];
  unique = λ x y l h e. grind (arith, nat_tests);
  crossed = λ x y l h e. grind (arith, nat_tests);
}

-- 0 and -i
splits_down : (m : ℕ) → Splits m (λ x. 0) (λ x. 2 * m + 1 - (x + 1))
unfolding gap
splits_down m = record {
  small = λ x l. (omega arith, omega arith, omega arith);
  solves = λ d pos l. elim (cases_lt m d) [
    | inl a ↦ (2 * m - d, omega arith, inl (grind (arith, nat_tests)))
    | inr a ↦ (d - 1, omega arith, inr (grind (arith, nat_tests)))
  ];
  unique = λ x y l h e. grind (arith, nat_tests);
  crossed = λ x y l h e. grind (arith, nat_tests);
}

-- i and -i: the differences are the even numbers one way and the odd ones the other
halves : (d : ℕ) → ((h : ℕ) × (d ≡ 2 * h)) ⊎ ((h : ℕ) × (d ≡ 2 * h + 1))
halves d = elim (cases_eq (d % 2) 0) [
  | inl e ↦ inl (d / 2, omega arith)
  | inr ne ↦ inr (d / 2, omega arith)
]

splits_both : (m : ℕ) → Splits m (λ x. x + 1) (λ x. 2 * m + 1 - (x + 1))
unfolding gap
splits_both m = record {
  small = λ x l. (omega arith, omega arith, omega arith);
  solves = λ d pos l. elim (halves d) [
    | inl h ↦ (h.0 - 1, omega arith, inr (grind (arith, nat_tests)))
    | inr h ↦ (m - h.0 - 1, omega arith, inl (grind (arith, nat_tests)))
  ];
  unique = λ x y l h e. grind (arith, nat_tests);
  crossed = λ x y l h e. grind (arith, nat_tests);
}

gap-same : (n x : ℕ) → gap n x x ≡ 0
unfolding gap
gap-same n x = grind (arith, nat_tests)

gap_positive : (n x y : ℕ) → x < n → y < n → x ≢ y → gap n x y ≢ 0
gap_positive n x y l h ne e = omega (arith, gap_is n x y l h)

-- what the base rows give in two columns: 0 and 0, then for each x the numbers a and b in both orders, and u with an infinite entry in both orders
term : ℕ → ℕ → ℕ → (ℕ → ℕ) → (ℕ → ℕ) → (ℕ → ℕ) → ℕ → ℕ
term m p q a b u x = (translations (2 * m + 1) p q (a x) (b x) + translations (2 * m + 1) p q (b x) (a x)) + (translations (2 * m + 1) p q (u x) (2 * m + (x + 1)) + translations (2 * m + 1) p q (2 * m + (x + 1)) (u x))

module _ (m p q : ℕ) (a b u : ℕ → ℕ) (split : Splits m a b) (low : (x : ℕ) → x < m → u x < 2 * m + 1) where
  near_term : p < 2 * m + 1 → q < 2 * m + 1 → (x : ℕ) → x < m → term m p q a b u x ≡ one (gap (2 * m + 1) (a x) (b x) == gap (2 * m + 1) p q) + one (gap (2 * m + 1) (b x) (a x) == gap (2 * m + 1) p q)
  unfolding term
  near_term lp lq x l = let s = split.small x l in omega (
    arith,
    translations_near (2 * m + 1) p q (a x) (b x) lp lq s.0 s.1,
    translations_near (2 * m + 1) p q (b x) (a x) lp lq s.1 s.0,
    translations_none (2 * m + 1) p q (u x) (2 * m + (x + 1)) (inr (inr (inr (omega arith, lq)))),
    translations_none (2 * m + 1) p q (2 * m + (x + 1)) (u x) (inr (inl (omega arith, lp))),
  )

  near_near : p < 2 * m + 1 → q < 2 * m + 1 → translations (2 * m + 1) p q 0 0 + sum_below m (term m p q a b u) ≡ 1
  near_near lp lq = elim (cases_eq (gap (2 * m + 1) p q) 0) [
    | inl e ↦ omega (
      arith,
      start,
      one-true (gap (2 * m + 1) 0 0 == gap (2 * m + 1) p q) (eq-eqb _ _ (gap-same (2 * m + 1) 0 ∙ sym e)),
      sum_below-zero m (term m p q a b u) (λ x l. let s = split.small x l in near_term lp lq x l
          ∙ ap₂ (λ x y. x + y) (one-false _ (λ f. gap_positive (2 * m + 1) (a x) (b x) s.0 s.1 s.2 (eqb-true _ _ f ∙ e)))
          (one-false _ (λ f. gap_positive (2 * m + 1) (b x) (a x) s.1 s.0 (λ g. s.2 (sym g)) (eqb-true _ _ f ∙ e)))),
    )
    | inr ne ↦ let s = split.solves (gap (2 * m + 1) p q) (omega arith) (gap_is (2 * m + 1) p q lp lq).0 in
        omega (
          arith,
          start,
          one-false (gap (2 * m + 1) 0 0 == gap (2 * m + 1) p q) (λ f. ne (sym (eqb-true _ _ f) ∙ gap-same (2 * m + 1) 0)),
          sum_below-at m s.0 (term m p q a b u) s.1 (λ x l other. near_term lp lq x l ∙ ap₂ (λ x y. x + y)
              (one-false _ (λ f. wrong_up x s.0 l s.1 other (eqb-true _ _ f) s.2))
              (one-false _ (λ f. wrong_down x s.0 l s.1 other (eqb-true _ _ f) s.2))),
          near_term lp lq s.0 s.1,
          right s.0 s.1 s.2,
        )
  ]
    where
      start : translations (2 * m + 1) p q 0 0 ≡ one (gap (2 * m + 1) 0 0 == gap (2 * m + 1) p q)
      start = translations_near (2 * m + 1) p q 0 0 lp lq (omega arith) (omega arith)

      wrong_up : (x y : ℕ) → x < m → y < m → x ≢ y → gap (2 * m + 1) (a x) (b x) ≡ gap (2 * m + 1) p q → (gap (2 * m + 1) (a y) (b y) ≡ gap (2 * m + 1) p q) ⊎ (gap (2 * m + 1) (b y) (a y) ≡ gap (2 * m + 1) p q) → ⊥
      wrong_up x y l h ne e (inl f) = ne (split.unique x y l h (inl (e ∙ sym f)))
      wrong_up x y l h ne e (inr f) = split.crossed x y l h (e ∙ sym f)

      wrong_down : (x y : ℕ) → x < m → y < m → x ≢ y → gap (2 * m + 1) (b x) (a x) ≡ gap (2 * m + 1) p q → (gap (2 * m + 1) (a y) (b y) ≡ gap (2 * m + 1) p q) ⊎ (gap (2 * m + 1) (b y) (a y) ≡ gap (2 * m + 1) p q) → ⊥
      wrong_down x y l h ne e (inl f) = split.crossed y x h l (f ∙ sym e)
      wrong_down x y l h ne e (inr f) = ne (split.unique x y l h (inr (e ∙ sym f)))

      right : (x : ℕ) → x < m → (gap (2 * m + 1) (a x) (b x) ≡ gap (2 * m + 1) p q) ⊎ (gap (2 * m + 1) (b x) (a x) ≡ gap (2 * m + 1) p q) → one (gap (2 * m + 1) (a x) (b x) == gap (2 * m + 1) p q) + one (gap (2 * m + 1) (b x) (a x) == gap (2 * m + 1) p q) ≡ 1
      right x l (inl e) = ap₂ (λ x y. x + y) (one-true _ (eq-eqb _ _ e)) (one-false _ (λ f. split.crossed x x l l (e ∙ sym (eqb-true (gap (2 * m + 1) (b x) (a x)) _ f))))
      right x l (inr e) = ap₂ (λ x y. x + y) (one-false _ (λ f. split.crossed x x l l (eqb-true (gap (2 * m + 1) (a x) (b x)) _ f ∙ sym e))) (one-true _ (eq-eqb _ _ e))

  near_far : p < 2 * m + 1 → 2 * m + 1 ≤ q → q < 2 * m + 1 + m → translations (2 * m + 1) p q 0 0 + sum_below m (term m p q a b u) ≡ 1
  unfolding term
  near_far lp lq h = omega (
    arith,
    translations_none (2 * m + 1) p q 0 0 (inr (inr (inl (omega arith, lq)))),
    sum_below-same m (term m p q a b u) (λ x. one (2 * m + (x + 1) == q)) (λ x l. let s = split.small x l in omega (
      arith,
      translations_none (2 * m + 1) p q (a x) (b x) (inr (inr (inl (s.1, lq)))),
      translations_none (2 * m + 1) p q (b x) (a x) (inr (inr (inl (s.0, lq)))),
      translations_second (2 * m + 1) p q (u x) (2 * m + (x + 1)) lp (low x l) (omega arith),
      translations_none (2 * m + 1) p q (2 * m + (x + 1)) (u x) (inr (inl (omega arith, lp))),
    )),
    count_one m (q - (2 * m + 1)) (λ x. 2 * m + (x + 1) == q) (omega arith) (eq-eqb _ q (omega arith)) (λ x l e. omega (arith, eqb-true (2 * m + (x + 1)) q e)),
  )

  far_near : 2 * m + 1 ≤ p → p < 2 * m + 1 + m → q < 2 * m + 1 → translations (2 * m + 1) p q 0 0 + sum_below m (term m p q a b u) ≡ 1
  unfolding term
  far_near lp h lq = omega (
    arith,
    translations_none (2 * m + 1) p q 0 0 (inl (omega arith, lp)),
    sum_below-same m (term m p q a b u) (λ x. one (2 * m + (x + 1) == p)) (λ x l. let s = split.small x l in omega (
      arith,
      translations_none (2 * m + 1) p q (a x) (b x) (inl (s.0, lp)),
      translations_none (2 * m + 1) p q (b x) (a x) (inl (s.1, lp)),
      translations_none (2 * m + 1) p q (u x) (2 * m + (x + 1)) (inl (low x l, lp)),
      translations_first (2 * m + 1) p q (2 * m + (x + 1)) (u x) lq (low x l) (omega arith),
    )),
    count_one m (p - (2 * m + 1)) (λ x. 2 * m + (x + 1) == p) (omega arith) (eq-eqb _ p (omega arith)) (λ x l e. omega (arith, eqb-true (2 * m + (x + 1)) p e)),
  )

  far_far : 2 * m + 1 ≤ p → 2 * m + 1 ≤ q → translations (2 * m + 1) p q 0 0 + sum_below m (term m p q a b u) ≡ 0
  unfolding term
  far_far lp lq = omega (
    arith,
    translations_none (2 * m + 1) p q 0 0 (inl (omega arith, lp)),
    sum_below-zero m (term m p q a b u) (λ x l. let s = split.small x l in omega (
      arith,
      translations_none (2 * m + 1) p q (a x) (b x) (inl (s.0, lp)),
      translations_none (2 * m + 1) p q (b x) (a x) (inl (s.1, lp)),
      translations_none (2 * m + 1) p q (u x) (2 * m + (x + 1)) (inl (low x l, lp)),
      translations_none (2 * m + 1) p q (2 * m + (x + 1)) (u x) (inr (inr (inl (low x l, lq)))),
    )),
  )

  col : p < 2 * m + 1 + m → q < 2 * m + 1 + m → (translations (2 * m + 1) p q 0 0 + sum_below m (term m p q a b u)) + one (nat_lt (2 * m) p && nat_lt (2 * m) q) ≡ 1
  col lp lq = elim (cases_lt p (2 * m + 1)) [
    | inl x ↦ elim (cases_lt q (2 * m + 1)) [
      | inl y ↦ omega (arith, near_near x y, one-false (nat_lt (2 * m) p && nat_lt (2 * m) q) (λ e. grind (arith, nat_tests)))
      | inr y ↦ omega (arith, near_far x y lq, one-false (nat_lt (2 * m) p && nat_lt (2 * m) q) (λ e. grind (arith, nat_tests)))
    ]
    | inr x ↦ elim (cases_lt q (2 * m + 1)) [
      | inl y ↦ omega (arith, far_near x lp y, one-false (nat_lt (2 * m) p && nat_lt (2 * m) q) (λ e. grind (arith, nat_tests)))
      | inr y ↦ omega (arith, far_far x y, one-true (nat_lt (2 * m) p && nat_lt (2 * m) q) (grind (arith, nat_tests)))
    ]
  ]

-- ---- the six pairs of columns
six : (P : ℕ → ℕ → Type 0) → P 0 1 → P 0 2 → P 0 3 → P 1 2 → P 1 3 → P 2 3 → (i j : ℕ) → i < j → j < 4 → P i j
six P a b c d e f zero (suc zero) l h = a
six P a b c d e f zero (suc (suc zero)) l h = b
six P a b c d e f zero (suc (suc (suc zero))) l h = c
six P a b c d e f (suc zero) (suc (suc zero)) l h = d
six P a b c d e f (suc zero) (suc (suc (suc zero))) l h = e
six P a b c d e f (suc (suc zero)) (suc (suc (suc zero))) l h = f
six P a b c d e f i j l h = absurd (omega arith)

four : (f : List ℕ → ℕ) (r s t u : List ℕ) → sum_by f (r ∷ (s ∷ (t ∷ (u ∷ [])))) ≡ f r + f s + f t + f u
four f r s t u = omega (arith, sum_by-cons f r (s ∷ (t ∷ (u ∷ []))), sum_by-cons f s (t ∷ (u ∷ [])), sum_by-cons f t (u ∷ []), sum_by-cons f u [])

module _ (m p q : ℕ) (lp : p < 2 * m + 1 + m) (lq : q < 2 * m + 1 + m) where
  seen : ℕ → ℕ → List ℕ → ℕ
  seen i j b = translations (2 * m + 1) p q (get_or b i 0) (get_or b j 0)

  over_rows : (f : List ℕ → ℕ) (g : ℕ → ℕ) → ((x : ℕ) → x < m → sum_by f (quadruple m (x + 1)) ≡ g x) → sum_by f (base_rows m m) ≡ f (0 ∷ (0 ∷ (0 ∷ (0 ∷ [])))) + sum_below m g
  unfolding base_rows
  over_rows f g h = sum_by-cons f (0 ∷ (0 ∷ (0 ∷ (0 ∷ [])))) (join_below m (λ x. quadruple m (x + 1)))
      ∙ ap (λ n. f (0 ∷ (0 ∷ (0 ∷ (0 ∷ [])))) + n) (sum_by-join_below f m (λ x. quadruple m (x + 1)) ∙ sum_below-same m _ g h)

  four_rows : (f : List ℕ → ℕ) (x : ℕ) → sum_by f (quadruple m (x + 1)) ≡
      f (0 ∷ ((x + 1) ∷ ((2 * m + 1 - (x + 1)) ∷ ((2 * m + (x + 1)) ∷ [])))) + f ((x + 1) ∷ (0 ∷ ((2 * m + (x + 1)) ∷ ((2 * m + 1 - (x + 1)) ∷ []))))
      + f ((2 * m + 1 - (x + 1)) ∷ ((2 * m + (x + 1)) ∷ (0 ∷ ((x + 1) ∷ [])))) + f ((2 * m + (x + 1)) ∷ ((2 * m + 1 - (x + 1)) ∷ ((x + 1) ∷ (0 ∷ []))))
  unfolding quadruple
  four_rows f x = four f _ _ _ _

  Column : ℕ → ℕ → Type 0
  Column i j = sum_by (seen i j) (base_rows m m) + one (nat_lt (2 * m) p && nat_lt (2 * m) q) ≡ 1

  column : (i j : ℕ) → i < j → j < 4 → Column i j
  unfolding Column seen quadruple term
  column = six Column
      (from 0 1 (λ x. 0) (λ x. x + 1) (λ x. 2 * m + 1 - (x + 1)) (splits_up m) (λ x l. omega arith) refl (λ x l. omega (arith, four_rows (seen 0 1) x)))
      (from 0 2 (λ x. 0) (λ x. 2 * m + 1 - (x + 1)) (λ x. x + 1) (splits_down m) (λ x l. omega arith) refl (λ x l. omega (arith, four_rows (seen 0 2) x)))
      (from 0 3 (λ x. x + 1) (λ x. 2 * m + 1 - (x + 1)) (λ x. 0) (splits_both m) (λ x l. omega arith) refl (λ x l. omega (arith, four_rows (seen 0 3) x)))
      (from 1 2 (λ x. x + 1) (λ x. 2 * m + 1 - (x + 1)) (λ x. 0) (splits_both m) (λ x l. omega arith) refl (λ x l. omega (arith, four_rows (seen 1 2) x)))
      (from 1 3 (λ x. 0) (λ x. 2 * m + 1 - (x + 1)) (λ x. x + 1) (splits_down m) (λ x l. omega arith) refl (λ x l. omega (arith, four_rows (seen 1 3) x)))
      (from 2 3 (λ x. 0) (λ x. x + 1) (λ x. 2 * m + 1 - (x + 1)) (splits_up m) (λ x l. omega arith) refl (λ x l. omega (arith, four_rows (seen 2 3) x)))
    where
      from : (i j : ℕ) (a b u : ℕ → ℕ) → Splits m a b → ((x : ℕ) → x < m → u x < 2 * m + 1) → seen i j (0 ∷ (0 ∷ (0 ∷ (0 ∷ [])))) ≡ translations (2 * m + 1) p q 0 0 → ((x : ℕ) → x < m → sum_by (seen i j) (quadruple m (x + 1)) ≡ term m p q a b u x) → Column i j
      from i j a b u s low e h = omega (arith, over_rows (seen i j) (term m p q a b u) h, e, col m p q a b u s low lp lq)

-- ---- the whole array
module _ (m : ℕ) where
  row_of_four : (a b c d : ℕ) → a < 2 * m + 1 + m → b < 2 * m + 1 + m → c < 2 * m + 1 + m → d < 2 * m + 1 + m → IsRow 4 (2 * m + 1 + m) (a ∷ b ∷ c ∷ d ∷ [])
  row_of_four a b c d i j k l = record { size = refl; below = All-from_recursion (λ x. x < 2 * m + 1 + m) (a ∷ b ∷ c ∷ d ∷ []) (i, (j, (k, (l, tt)))) }

  rows_of_base : All (IsRow 4 (2 * m + 1 + m)) (base_rows m m)
  unfolding base_rows quadruple
  rows_of_base = All-append (IsRow 4 (2 * m + 1 + m)) ((0 ∷ 0 ∷ 0 ∷ 0 ∷ []) ∷ []) (join_below m (λ x. quadruple m (x + 1)))
      (All-from_recursion (IsRow 4 (2 * m + 1 + m)) ((0 ∷ 0 ∷ 0 ∷ 0 ∷ []) ∷ []) (row_of_four 0 0 0 0 (omega arith) (omega arith) (omega arith) (omega arith), tt))
      (All-join_below (IsRow 4 (2 * m + 1 + m)) m (λ x. quadruple m (x + 1)) (λ x l. All-from_recursion (IsRow 4 (2 * m + 1 + m)) (quadruple m (x + 1)) (
        row_of_four _ _ _ _ (omega arith) (omega arith) (omega arith) (omega arith),
        (
          row_of_four _ _ _ _ (omega arith) (omega arith) (omega arith) (omega arith),
          (
            row_of_four _ _ _ _ (omega arith) (omega arith) (omega arith) (omega arith),
            (row_of_four _ _ _ _ (omega arith) (omega arith) (omega arith) (omega arith), tt),
          ),
        ),
      )))

module _ (m : ℕ) (R : List (List ℕ)) (oa : IsOa R 4 m) where
  high : ℕ → ℕ → ℕ → ℕ → ℕ
  high i j p q = agree (raised (2 * m + 1) R) i j p q

  together : (i j p q : ℕ) → agree (parker_rows m R) i j p q ≡ agree (translates_below (2 * m + 1) (2 * m + 1) (base_rows m m)) i j p q + high i j p q
  unfolding parker_rows high
  together i j p q = agree-is _ i j p q ∙ sum_by-append (λ r. one ((get_or r i 0 == p) && (get_or r j 0 == q))) (translates_below (2 * m + 1) (2 * m + 1) (base_rows m m)) (raised (2 * m + 1) R)
      ∙ ap₂ (λ x y. x + y) (sym (agree-is _ i j p q)) (sym (agree-is _ i j p q))

  -- the ingredient's rows have the pairs of infinite symbols
  ends : (i j p q : ℕ) → i < j → j < 4 → p < 2 * m + 1 + m → q < 2 * m + 1 + m → high i j p q ≡ one (nat_lt (2 * m) p && nat_lt (2 * m) q)
  unfolding high
  ends i j p q l h lp lq = elim (cases_lt p (2 * m + 1)) [
    | inl x ↦ raised_none 4 m (2 * m + 1) R oa.rows i j p q (omega arith) h (inl (inl x)) ∙ sym (one-false (nat_lt (2 * m) p && nat_lt (2 * m) q) (λ e. grind (arith, nat_tests)))
    | inr x ↦ elim (cases_lt q (2 * m + 1)) [
      | inl y ↦ raised_none 4 m (2 * m + 1) R oa.rows i j p q (omega arith) h (inr (inl y)) ∙ sym (one-false (nat_lt (2 * m) p && nat_lt (2 * m) q) (λ e. grind (arith, nat_tests)))
      | inr y ↦ raised_agree 4 m (2 * m + 1) R oa.rows i j p q (p - (2 * m + 1)) (q - (2 * m + 1)) (omega arith) h (omega arith) (omega arith)
          ∙ oa.pairs i j (p - (2 * m + 1)) (q - (2 * m + 1)) l h (omega arith) (omega arith)
          ∙ sym (one-true (nat_lt (2 * m) p && nat_lt (2 * m) q) (grind (arith, nat_tests)))
    ]
  ]

  all_rows : All (IsRow 4 (2 * m + 1 + m)) (parker_rows m R)
  unfolding parker_rows
  all_rows = All-append (IsRow 4 (2 * m + 1 + m)) _ _ (translate_rows 4 (2 * m + 1) (2 * m + 1 + m) (base_rows m m) (rows_of_base m) (omega arith)) (raised_rows 4 m (2 * m + 1) R oa.rows (2 * m + 1 + m) (omega arith))

  parker_array : IsOa (parker_rows m R) 4 (2 * m + 1 + m)
  unfolding seen Column
  parker_array = oa_from_pairs 4 (2 * m + 1 + m) (parker_rows m R) (omega arith) all_rows
      (λ i j p q l h lp lq. together i j p q
      ∙ ap (λ n. n + high i j p q) (translate_agree 4 (2 * m + 1) (2 * m + 1 + m) (base_rows m m) (rows_of_base m) (omega arith) i j p q (omega arith) h)
      ∙ omega (arith, column m p q lp lq i j l h, ends i j p q l h lp lq))

  pub parker_is_oa : IsOa (parker_rows m R) 4 (3 * m + 1)
  parker_is_oa = let same : 2 * m + 1 + m ≡ 3 * m + 1 = omega arith in subst (IsOa (parker_rows m R) 4) same parker_array

-- ---- the rows as they are written
blocks_of_four : (k n : ℕ) (p q r s : List ℕ) → blocks_of_rows k n (p ∷ q ∷ r ∷ s ∷ []) ≡
    blocks_of_rows k n (p ∷ []) ++ blocks_of_rows k n (q ∷ []) ++ blocks_of_rows k n (r ∷ []) ++ blocks_of_rows k n (s ∷ [])
unfolding blocks_of_rows
blocks_of_four k n p q r s = refl

module _ (m c i : ℕ) (finite : c < 2 * m + 1) (some : 1 ≤ i) (most : i ≤ m) where
  translate_quadruple : translate (2 * m + 1) c (quadruple m i) ≡
      (c ∷ (i + c) % (2 * m + 1) ∷ (2 * m + 1 - i + c) % (2 * m + 1) ∷ (2 * m + i) ∷ [])
      ∷ ((i + c) % (2 * m + 1) ∷ c ∷ (2 * m + i) ∷ (2 * m + 1 - i + c) % (2 * m + 1) ∷ [])
      ∷ ((2 * m + 1 - i + c) % (2 * m + 1) ∷ (2 * m + i) ∷ c ∷ (i + c) % (2 * m + 1) ∷ [])
      ∷ ((2 * m + i) ∷ (2 * m + 1 - i + c) % (2 * m + 1) ∷ (i + c) % (2 * m + 1) ∷ c ∷ [])
      ∷ []
  unfolding translate quadruple
  translate_quadruple = rw (translated_zero (2 * m + 1) c finite, translated_finite (2 * m + 1) c i (omega arith), translated_finite (2 * m + 1) c (2 * m + 1 - i) (omega arith), translated_far (2 * m + 1) c (2 * m + i) (omega arith)) refl

  pub blocks_of_quadruple : (n : ℕ) → blocks_of_rows 4 n (translate (2 * m + 1) c (quadruple m i)) ≡
      blocks_of_rows 4 n ((c ∷ (i + c) % (2 * m + 1) ∷ (2 * m + 1 - i + c) % (2 * m + 1) ∷ (2 * m + i) ∷ []) ∷ [])
      ++ blocks_of_rows 4 n (((i + c) % (2 * m + 1) ∷ c ∷ (2 * m + i) ∷ (2 * m + 1 - i + c) % (2 * m + 1) ∷ []) ∷ [])
      ++ blocks_of_rows 4 n (((2 * m + 1 - i + c) % (2 * m + 1) ∷ (2 * m + i) ∷ c ∷ (i + c) % (2 * m + 1) ∷ []) ∷ [])
      ++ blocks_of_rows 4 n (((2 * m + i) ∷ (2 * m + 1 - i + c) % (2 * m + 1) ∷ (i + c) % (2 * m + 1) ∷ c ∷ []) ∷ [])
  blocks_of_quadruple n = ap (blocks_of_rows 4 n) translate_quadruple ∙ blocks_of_four 4 n _ _ _ _
