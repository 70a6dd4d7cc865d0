-- Rows whose finite entries are translated by each c modulo n.
use Rattle.std.proofs.Common.{◌≡◌, ℕ, ◌+◌, ◌-◌, ◌%◌, ◌<◌, ◌≤◌, cond, List, ◌⊎◌, refl, ap, ap₂, sym, ◌∙◌, arith, inl, inr, ◌&&◌, ◌==◌, map, get_or}
use Rattle.std.specs.Prelude.{All, nat_lt}
use Rattle.std.specs.List.{sum_by}
use Rattle.std.proofs.Math.Nat.{zero-add, mod-lt, mod-eq_of_lt, add-mod_right}
use Rattle.counting.proofs.Booleans.{both_equal, both_equal-from, cases_eq, cases_lt, cond_above, cond_below, eq-eqb, eqb-true}
use Rattle.std.proofs.lemmas.Bool.Decides.{nat_tests}
use Rattle.std.proofs.lemmas.List.{get_or-map, length-map}
use Rattle.counting.specs.Sums.{one, sum_below, join_below}
use Rattle.design_base.specs.Arrays.{agree, IsRow}
use Rattle.transversal.specs.Constructions.{translated, translate, translates_below}
use Rattle.counting.proofs.Counts.{sum_below-same, count_one, count_none, one-true, one-false}
use Rattle.counting.proofs.Lists.{sum_by-agree, sum_by-map, sum_by-join_below, sum_by-sum_below, All-map_of}
use Rattle.counting.proofs.Ranges.{All-join_below}
use Rattle.design_base.proofs.Rows.{agree-is}

-- a number below n and its translated
pub translated_near : (n c s : ℕ) → s < n → c < n → (translated n c s < n) × ((translated n c s ≡ s + c) ⊎ (translated n c s + n ≡ s + c))
unfolding translated
translated_near n c s l h = (
  omega (arith, is, small),
  elim (cases_lt (s + c) n) [
    | inl a ↦ inl (is ∙ mod-eq_of_lt a)
    | inr a ↦ inr (omega (arith, is ∙ reduced a))
  ],
)
  where
    is : cond (nat_lt s n) ((s + c) % n) s ≡ (s + c) % n
    is = sym (cond_below s n ((s + c) % n) s l)

    small : (s + c) % n < n
    small = let pos : 0 < n = omega arith in mod-lt (s + c) pos

    reduced : n ≤ s + c → (s + c) % n ≡ s + c - n
    reduced a = let low : s + c - n < n = omega arith in
        let over : s + c ≡ s + c - n + n = omega arith in
        ap (λ x. x % n) over ∙ add-mod_right (s + c - n) n ∙ mod-eq_of_lt low

pub translated_far : (n c s : ℕ) → n ≤ s → translated n c s ≡ s
unfolding translated
translated_far n c s l = sym (cond_above s n ((s + c) % n) s s l refl)

pub translated_finite : (n c s : ℕ) → s < n → translated n c s ≡ (s + c) % n
unfolding translated
translated_finite n c s l = sym (cond_below s n ((s + c) % n) s l)

pub translated_zero : (n c : ℕ) → c < n → translated n c 0 ≡ c
translated_zero n c l = translated_finite n c 0 (omega arith) ∙ ap (λ x. x % n) (zero-add c) ∙ mod-eq_of_lt l

-- what leads from x to y modulo n
unfoldable pub gap : ℕ → ℕ → ℕ → ℕ
gap n x y = cond (nat_lt y x) (y + n - x) (y - x)

pub gap_is : (n x y : ℕ) → x < n → y < n → (gap n x y < n) × ((x + gap n x y ≡ y) ⊎ (x + gap n x y ≡ y + n))
unfolding gap
gap_is n x y l h = elim (cases_lt y x) [
  | inl a ↦ (grind (arith, nat_tests), inr (grind (arith, nat_tests)))
  | inr a ↦ (grind (arith, nat_tests), inl (grind (arith, nat_tests)))
]

module _ (n : ℕ) where
  -- for how many c the pair s, z becomes p, q
  pub translations : ℕ → ℕ → ℕ → ℕ → ℕ
  translations p q s z = sum_below n (λ c. one ((translated n c s == p) && (translated n c z == q)))

  pub translations_near : (p q s z : ℕ) → p < n → q < n → s < n → z < n → translations p q s z ≡ one (gap n s z == gap n p q)
  unfolding translations
  translations_near p q s z lp lq ls lz = elim (cases_eq (gap n s z) (gap n p q)) [
    | inl e ↦ count_one n (gap n s p) (λ c. (translated n c s == p) && (translated n c z == q)) sp.0
        (let a = translated_near n (gap n s p) s ls sp.0 in
        let b = translated_near n (gap n s p) z lz sp.0 in
        both_equal-from (translated n (gap n s p) s) (translated n (gap n s p) z) p q (omega (arith, sp, a)) (omega (arith, sp, sz, pq, a, b, e)))
        (λ c lc f. let g = both_equal (translated n c s) (translated n c z) p q f in
        let a = translated_near n c s ls lc in
        omega (arith, sp, a, g.0))
        ∙ sym (one-true _ (eq-eqb (gap n s z) (gap n p q) e))
    | inr ne ↦ count_none n (λ c. (translated n c s == p) && (translated n c z == q)) (λ c lc f. let g = both_equal (translated n c s) (translated n c z) p q f in
        let a = translated_near n c s ls lc in
        let b = translated_near n c z lz lc in
        ne (omega (arith, sz, pq, a, b, g.0, g.1)))
        ∙ sym (one-false _ (λ e. ne (eqb-true (gap n s z) (gap n p q) e)))
  ]
    where
      sp : (gap n s p < n) × ((s + gap n s p ≡ p) ⊎ (s + gap n s p ≡ p + n))
      sp = gap_is n s p ls lp

      sz : (gap n s z < n) × ((s + gap n s z ≡ z) ⊎ (s + gap n s z ≡ z + n))
      sz = gap_is n s z ls lz

      pq : (gap n p q < n) × ((p + gap n p q ≡ q) ⊎ (p + gap n p q ≡ q + n))
      pq = gap_is n p q lp lq

  -- one of the two is not moved
  pub translations_second : (p q s z : ℕ) → p < n → s < n → n ≤ z → translations p q s z ≡ one (z == q)
  unfolding translations
  translations_second p q s z lp ls lz = elim (cases_eq z q) [
    | inl e ↦ count_one n (gap n s p) (λ c. (translated n c s == p) && (translated n c z == q)) sp.0
        (let a = translated_near n (gap n s p) s ls sp.0 in both_equal-from (translated n (gap n s p) s) (translated n (gap n s p) z) p q (omega (arith, sp, a)) (translated_far n (gap n s p) z lz ∙ e))
        (λ c lc f. let g = both_equal (translated n c s) (translated n c z) p q f in let a = translated_near n c s ls lc in omega (arith, sp, a, g.0))
        ∙ sym (one-true _ (eq-eqb z q e))
    | inr ne ↦ count_none n (λ c. (translated n c s == p) && (translated n c z == q)) (λ c lc f. ne (sym (translated_far n c z lz) ∙ (both_equal (translated n c s) (translated n c z) p q f).1))
        ∙ sym (one-false _ (λ e. ne (eqb-true z q e)))
  ]
    where
      sp : (gap n s p < n) × ((s + gap n s p ≡ p) ⊎ (s + gap n s p ≡ p + n))
      sp = gap_is n s p ls lp

  pub translations_first : (p q s z : ℕ) → q < n → z < n → n ≤ s → translations p q s z ≡ one (s == p)
  unfolding translations
  translations_first p q s z lq lz ls = elim (cases_eq s p) [
    | inl e ↦ count_one n (gap n z q) (λ c. (translated n c s == p) && (translated n c z == q)) zq.0
        (let a = translated_near n (gap n z q) z lz zq.0 in both_equal-from (translated n (gap n z q) s) (translated n (gap n z q) z) p q (translated_far n (gap n z q) s ls ∙ e) (omega (arith, zq, a)))
        (λ c lc f. let g = both_equal (translated n c s) (translated n c z) p q f in let a = translated_near n c z lz lc in omega (arith, zq, a, g.1))
        ∙ sym (one-true _ (eq-eqb s p e))
    | inr ne ↦ count_none n (λ c. (translated n c s == p) && (translated n c z == q)) (λ c lc f. ne (sym (translated_far n c s ls) ∙ (both_equal (translated n c s) (translated n c z) p q f).0))
        ∙ sym (one-false _ (λ e. ne (eqb-true s p e)))
  ]
    where
      zq : (gap n z q < n) × ((z + gap n z q ≡ q) ⊎ (z + gap n z q ≡ q + n))
      zq = gap_is n z q lz lq

  -- a finite entry never becomes an infinite one, nor the other way round
  pub translations_none : (p q s z : ℕ) → ((s < n) × (n ≤ p)) ⊎ ((n ≤ s) × (p < n)) ⊎ ((z < n) × (n ≤ q)) ⊎ ((n ≤ z) × (q < n)) → translations p q s z ≡ 0
  unfolding translations
  translations_none p q s z out = count_none n (λ c. (translated n c s == p) && (translated n c z == q)) (λ c lc f. let g = both_equal (translated n c s) (translated n c z) p q f in clash c lc g.0 g.1 out)
    where
      clash : (c : ℕ) → c < n → translated n c s ≡ p → translated n c z ≡ q → ((s < n) × (n ≤ p)) ⊎ ((n ≤ s) × (p < n)) ⊎ ((z < n) × (n ≤ q)) ⊎ ((n ≤ z) × (q < n)) → ⊥
      clash c lc e f (inl a) = omega (arith, translated_near n c s a.0 lc)
      clash c lc e f (inr (inl a)) = omega (arith, translated_far n c s a.0)
      clash c lc e f (inr (inr (inl a))) = omega (arith, translated_near n c z a.0 lc)
      clash c lc e f (inr (inr (inr a))) = omega (arith, translated_far n c z a.0)

module _ (k n v : ℕ) (B : List (List ℕ)) (rows : All (IsRow k v) B) (le : n ≤ v) where
  pub translate_agree : (i j p q : ℕ) → i < k → j < k → agree (translates_below n n B) i j p q ≡ sum_by (λ b. translations n p q (get_or b i 0) (get_or b j 0)) B
  unfolding translate translates_below translations
  translate_agree i j p q l h = agree-is (join_below n (λ c. map (map (translated n c)) B)) i j p q
      ∙ sum_by-join_below (λ r. one ((get_or r i 0 == p) && (get_or r j 0 == q))) n (λ c. map (map (translated n c)) B)
      ∙ sum_below-same n _ (λ c. sum_by (λ b. one ((translated n c (get_or b i 0) == p) && (translated n c (get_or b j 0) == q))) B) (λ c lc.
      sum_by-map (λ r. one ((get_or r i 0 == p) && (get_or r j 0 == q))) (map (translated n c)) B
      ∙ sum_by-agree (IsRow k v) _ (λ b. one ((translated n c (get_or b i 0) == p) && (translated n c (get_or b j 0) == q))) B rows (λ b s.
      ap₂ (λ x y. one ((x == p) && (y == q))) (get_or-map (translated n c) b i 0 0 (omega (arith, s.size))) (get_or-map (translated n c) b j 0 0 (omega (arith, s.size)))))
      ∙ sym (sum_by-sum_below (λ c b. one ((translated n c (get_or b i 0) == p) && (translated n c (get_or b j 0) == q))) n B)

  translated-below : (c a : ℕ) → c < n → a < v → translated n c a < v
  translated-below c a lc l = elim (cases_lt a n) [
    | inl x ↦ omega (arith, translated_near n c a x lc)
    | inr x ↦ omega (arith, translated_far n c a x)
  ]

  pub translate_rows : All (IsRow k v) (translates_below n n B)
  unfolding translate translates_below
  translate_rows = All-join_below (IsRow k v) n (λ c. map (map (translated n c)) B) (λ c lc. All-map_of (IsRow k v) (IsRow k v) (map (translated n c)) B rows (λ b s. record {
    size = length-map b (translated n c) ∙ s.size;
    below = All-map_of (λ a. a < v) (λ a. a < v) (translated n c) b s.below (λ a l. translated-below c a lc l);
  }))
