-- Wilson's rows with two truncated groups are an orthogonal array.
use Rattle.std.proofs.Common.{List, [], ap, ap₂, arith, cond, get_or, inl, inr, refl, sym, ℕ, ◌*◌, ◌++◌, ◌+◌, ◌-◌, ◌<◌, ◌==◌, ◌∙◌, ◌∷◌, ◌≡◌, ◌≢◌, ◌≤◌, ◌⊎◌}
use Rattle.counting.proofs.Booleans.{cases_eq, cases_lt, cond_both, ltb-false, ltb-true}
use Rattle.std.proofs.lemmas.Bool.Decides.{nat_tests}
use Rattle.std.proofs.lemmas.List.Elements.{All-append}
use Rattle.std.proofs.lemmas.List.Sums.{sum_by-append}
use Rattle.std.specs.Prelude.{nat_lt}
use Rattle.design_base.specs.Arrays.{IsOa, IsRow, agree}
use Rattle.transversal.proofs.Raise.{raised_agree, raised_none, raised_rows}
use Rattle.transversal.specs.Constructions.{raised}
use Rattle.wilson.proofs.FilledArray.{IsEnding, AreInfinite, IsPiece, filled_is_oa}
use Rattle.wilson.proofs.HoledArray.{array_is_holed, holed_is, holed_twice_is}
use Rattle.wilson.proofs.OneGroup.{only_end}
use Rattle.wilson.specs.Holes.{holed, holed_twice}
use Rattle.wilson.specs.Truncations.{fill_two, filled_rows, two_truncated_rows, wilson_two_rows}

-- the sizes of the truncated groups k and k + 1, and their infinite points
kept : ℕ → ℕ → ℕ → ℕ → ℕ
kept k u w c = cond (c == k) u w

far_point : ℕ → ℕ → ℕ → ℕ → ℕ → ℕ
far_point k b u c v = cond (c == k) (b + v) (b + u + v)

first_kept : (k u w : ℕ) → kept k u w k ≡ u
unfolding kept
first_kept k u w = grind (arith, nat_tests)

second_kept : (k u w : ℕ) → kept k u w (k + 1) ≡ w
unfolding kept
second_kept k u w = grind (arith, nat_tests)

first_far : (k b u v : ℕ) → far_point k b u k v ≡ b + v
unfolding far_point
first_far k b u v = grind (arith, nat_tests)

second_far : (k b u v : ℕ) → far_point k b u (k + 1) v ≡ b + u + v
unfolding far_point
second_far k b u v = grind (arith, nat_tests)

-- the two groups
which : (k b u w c : ℕ) → k ≤ c → c < k + 2 → (v : ℕ) →
    ((c ≡ k) × (kept k u w c ≡ u) × (far_point k b u c v ≡ b + v)) ⊎ ((c ≡ k + 1) × (kept k u w c ≡ w) × (far_point k b u c v ≡ b + u + v))
which k b u w c l h v = elim (cases_eq c k) [
  | inl e ↦ inl (e, ap (kept k u w) e ∙ first_kept k u w, ap (λ c. far_point k b u c v) e ∙ first_far k b u v)
  | inr ne ↦ let e : c ≡ k + 1 = omega arith in inr (e, ap (kept k u w) e ∙ second_kept k u w, ap (λ c. far_point k b u c v) e ∙ second_far k b u v)
]

module _ (k m t u w : ℕ) (fits : u ≤ t) (fit : w ≤ t) where
  infinite_is : AreInfinite k (k + 2) m t (m * t + u + w) (kept k u w) (far_point k (m * t) u)
  infinite_is = record {
    more = omega arith;
    finite = omega arith;
    fits = λ c l h. elim (which k (m * t) u w c l h 0) [ inl a ↦ omega arith | inr a ↦ omega arith ];
    high = λ c v l h b. elim (which k (m * t) u w c l h v) [ inl a ↦ omega arith | inr a ↦ omega arith ];
    below = λ c v l h b. elim (which k (m * t) u w c l h v) [ inl a ↦ omega arith | inr a ↦ omega arith ];
    apart = λ c d v z l h b f g i e. elim (which k (m * t) u w c l h v) [
      | inl a ↦ elim (which k (m * t) u w d f g z) [ inl x ↦ (omega arith, omega arith) | inr x ↦ absurd (omega arith) ]
      | inr a ↦ elim (which k (m * t) u w d f g z) [ inl x ↦ absurd (omega arith) | inr x ↦ (omega arith, omega arith) ]
    ];
    point = λ p l h. elim (cases_lt p (m * t + u)) [
      | inl a ↦ (k, p - m * t, omega arith, omega arith, omega (arith, first_kept k u w), omega (arith, first_far k (m * t) u (p - m * t)))
      | inr a ↦ (k + 1, p - m * t - u, omega arith, omega arith, omega (arith, second_kept k u w), omega (arith, second_far k (m * t) u (p - m * t - u)))
    ];
  }

-- ---- the four kinds of master rows

-- the two infinite points
two_ends : (m p q s : ℕ) → m ≤ s → s < m + 2 → ((s ≡ m) × (get_or (p ∷ q ∷ []) (s - m) 0 ≡ p)) ⊎ ((s ≡ m + 1) × (get_or (p ∷ q ∷ []) (s - m) 0 ≡ q))
two_ends m p q s l h = elim (cases_eq s m) [
  | inl e ↦ inl (e, ap (λ i. get_or (p ∷ q ∷ []) i 0) (zero_left e))
  | inr ne ↦ inr (omega arith, ap (λ i. get_or (p ∷ q ∷ []) i 0) (one_left ne))
]
  where
    zero_left : s ≡ m → s - m ≡ 0
    zero_left e = omega arith

    one_left : s ≢ m → s - m ≡ 1
    one_left ne = omega arith

module _ (k m t u w : ℕ) (A E F : List (List ℕ)) (small : IsOa A k m) (large : IsOa E k (m + 1)) (larger : IsOa F k (m + 2)) (two : 2 ≤ k) (few : k ≤ m + 2) (a : List ℕ) where
  both_kept : get_or a k 0 < u → get_or a (k + 1) 0 < w →
      IsPiece k (k + 2) m (kept k u w) (far_point k (m * t) u) a (filled_rows k m ((m * t + get_or a k 0) ∷ (m * t + u + get_or a (k + 1) 0) ∷ []) a (holed_twice k m F))
  both_kept x y = record {
    inner = holed_twice k m F;
    ends = (m * t + get_or a k 0) ∷ (m * t + u + get_or a (k + 1) 0) ∷ [];
    group = λ s. k + (s - m);
    holed = holed_twice_is k m F two few larger;
    is = refl;
    truncated = λ s l h. elim (two_ends m (m * t + get_or a k 0) (m * t + u + get_or a (k + 1) 0) s l h) [
      | inl g ↦ let e : k + (s - m) ≡ k = omega arith in rw e (omega arith, omega arith, omega (arith, first_kept k u w), omega (arith, g.1, first_far k (m * t) u (get_or a k 0)))
      | inr g ↦ let e : k + (s - m) ≡ k + 1 = omega arith in rw e (omega arith, omega arith, omega (arith, second_kept k u w), omega (arith, g.1, second_far k (m * t) u (get_or a (k + 1) 0)))
    ];
    differ = λ s z l h f i e. omega arith;
    reached = λ c l h n. (m + (c - k), omega arith, omega arith, omega arith);
  }

  first_kept_alone : get_or a k 0 < u → w ≤ get_or a (k + 1) 0 → IsPiece k (k + 2) m (kept k u w) (far_point k (m * t) u) a (filled_rows k m ((m * t + get_or a k 0) ∷ []) a (holed k m E))
  first_kept_alone x y = record {
    inner = holed k m E;
    ends = (m * t + get_or a k 0) ∷ [];
    group = λ s. k;
    holed = holed_is k m E large;
    is = refl;
    truncated = λ s l h. (omega arith, omega arith, omega (arith, first_kept k u w), omega (arith, only_end m (m * t + get_or a k 0) s l h, first_far k (m * t) u (get_or a k 0)));
    differ = λ s z l h f i e. omega arith;
    reached = λ c l h n. elim (which k (m * t) u w c l h 0) [
      | inl g ↦ (m, omega arith, omega arith, sym g.0)
      | inr g ↦ absurd (omega (arith, n, g.1, ap (λ c. get_or a c 0) g.0))
    ];
  }

  second_kept_alone : u ≤ get_or a k 0 → get_or a (k + 1) 0 < w → IsPiece k (k + 2) m (kept k u w) (far_point k (m * t) u) a (filled_rows k m ((m * t + u + get_or a (k + 1) 0) ∷ []) a (holed k m E))
  second_kept_alone x y = record {
    inner = holed k m E;
    ends = (m * t + u + get_or a (k + 1) 0) ∷ [];
    group = λ s. k + 1;
    holed = holed_is k m E large;
    is = refl;
    truncated = λ s l h. (omega arith, omega arith, omega (arith, second_kept k u w), omega (arith, only_end m (m * t + u + get_or a (k + 1) 0) s l h, second_far k (m * t) u (get_or a (k + 1) 0)));
    differ = λ s z l h f i e. omega arith;
    reached = λ c l h n. elim (which k (m * t) u w c l h 0) [
      | inl g ↦ absurd (omega (arith, n, g.1, ap (λ c. get_or a c 0) g.0))
      | inr g ↦ (m, omega arith, omega arith, sym g.0)
    ];
  }

  none_kept : u ≤ get_or a k 0 → w ≤ get_or a (k + 1) 0 → IsPiece k (k + 2) m (kept k u w) (far_point k (m * t) u) a (filled_rows k m [] a A)
  none_kept x y = record {
    inner = A;
    ends = [];
    group = λ s. k;
    holed = array_is_holed k m A small;
    is = refl;
    truncated = λ s l h. absurd (omega arith);
    differ = λ s z l h f i e. absurd (omega arith);
    reached = λ c l h n. elim (which k (m * t) u w c l h 0) [
      | inl g ↦ absurd (omega (arith, n, g.1, ap (λ c. get_or a c 0) g.0))
      | inr g ↦ absurd (omega (arith, n, g.1, ap (λ c. get_or a c 0) g.0))
    ];
  }

  piece_is : IsPiece k (k + 2) m (kept k u w) (far_point k (m * t) u) a (fill_two k m t u w A (holed k m E) (holed_twice k m F) a)
  unfolding fill_two
  piece_is = cond_both (nat_lt (get_or a k 0) u) _ _ (IsPiece k (k + 2) m (kept k u w) (far_point k (m * t) u) a)
      (λ e. cond_both (nat_lt (get_or a (k + 1) 0) w) _ _ (IsPiece k (k + 2) m (kept k u w) (far_point k (m * t) u) a)
      (λ f. both_kept (ltb-true (get_or a k 0) u e) (ltb-true (get_or a (k + 1) 0) w f))
      (λ f. first_kept_alone (ltb-true (get_or a k 0) u e) (ltb-false (get_or a (k + 1) 0) w f)))
      (λ e. cond_both (nat_lt (get_or a (k + 1) 0) w) _ _ (IsPiece k (k + 2) m (kept k u w) (far_point k (m * t) u) a)
      (λ f. second_kept_alone (ltb-false (get_or a k 0) u e) (ltb-true (get_or a (k + 1) 0) w f))
      (λ f. none_kept (ltb-false (get_or a k 0) u e) (ltb-false (get_or a (k + 1) 0) w f)))

-- ---- the rows of infinite points
module _ (k m t u w : ℕ) (U W : List (List ℕ)) (first : IsOa U k u) (second : IsOa W k w) where
  sum_of : (i j p q : ℕ) → agree (raised (m * t) U ++ raised (m * t + u) W) i j p q ≡ agree (raised (m * t) U) i j p q + agree (raised (m * t + u) W) i j p q
  unfolding agree
  sum_of i j p q = sum_by-append _ (raised (m * t) U) (raised (m * t + u) W)

  ending_is : IsEnding k (k + 2) m t (m * t + u + w) (kept k u w) (far_point k (m * t) u) (raised (m * t) U ++ raised (m * t + u) W)
  ending_is = record {
    rows = All-append (IsRow k (m * t + u + w)) _ _ (raised_rows k u (m * t) U first.rows (m * t + u + w) (omega arith)) (raised_rows k w (m * t + u) W second.rows (m * t + u + w) (omega arith));
    finite = λ i j p q l h low. elim low [
      | inl a ↦ omega (arith, sum_of i j p q, raised_none k u (m * t) U first.rows i j p q (omega arith) h (inl (inl a)), raised_none k w (m * t + u) W second.rows i j p q (omega arith) h (inl (inl (omega arith))))
      | inr a ↦ omega (arith, sum_of i j p q, raised_none k u (m * t) U first.rows i j p q (omega arith) h (inr (inl a)), raised_none k w (m * t + u) W second.rows i j p q (omega arith) h (inr (inl (omega arith))))
    ];
    apart = λ i j c d v z l h a b lv f g lz ne. sum_of i j (far_point k (m * t) u c v) (far_point k (m * t) u d z) ∙ elim (which k (m * t) u w c a b v) [
      | inl x ↦ elim (which k (m * t) u w d f g z) [
        | inl y ↦ absurd (omega arith)
        | inr y ↦ none i j _ _ l h (inr (omega arith)) (inl (omega arith))
      ]
      | inr x ↦ elim (which k (m * t) u w d f g z) [
        | inl y ↦ none i j _ _ l h (inl (omega arith)) (inr (omega arith))
        | inr y ↦ absurd (omega arith)
      ]
    ];
    inside = λ i j c v z l h a b lv lz. elim (which k (m * t) u w c a b v) [
      | inl x ↦ let y : far_point k (m * t) u c z ≡ m * t + z = ap (λ c. far_point k (m * t) u c z) x.0 ∙ first_far k (m * t) u z in
          omega (
            arith,
            sum_of i j (far_point k (m * t) u c v) (far_point k (m * t) u c z),
            raised_agree k u (m * t) U first.rows i j (far_point k (m * t) u c v) (far_point k (m * t) u c z) v z (omega arith) h (sym x.2) (sym y),
            first.pairs i j v z l h (omega arith) (omega arith),
            raised_none k w (m * t + u) W second.rows i j (far_point k (m * t) u c v) (far_point k (m * t) u c z) (omega arith) h (inl (inl (omega arith))),
          )
      | inr x ↦ let y : far_point k (m * t) u c z ≡ m * t + u + z = ap (λ c. far_point k (m * t) u c z) x.0 ∙ second_far k (m * t) u z in
          omega (
            arith,
            sum_of i j (far_point k (m * t) u c v) (far_point k (m * t) u c z),
            raised_agree k w (m * t + u) W second.rows i j (far_point k (m * t) u c v) (far_point k (m * t) u c z) v z (omega arith) h (sym x.2) (sym y),
            second.pairs i j v z l h (omega arith) (omega arith),
            raised_none k u (m * t) U first.rows i j (far_point k (m * t) u c v) (far_point k (m * t) u c z) (omega arith) h (inl (inr (omega arith))),
          )
    ];
  }
    where
      none : (i j p q : ℕ) → i < j → j < k → (m * t + u ≤ p) ⊎ (m * t + u ≤ q) → (p < m * t + u) ⊎ (q < m * t + u) → agree (raised (m * t) U) i j p q + agree (raised (m * t + u) W) i j p q ≡ 0
      none i j p q l h a b = ap₂ (λ x y. x + y) (high a) (low b)
        where
          high : (m * t + u ≤ p) ⊎ (m * t + u ≤ q) → agree (raised (m * t) U) i j p q ≡ 0
          high (inl x) = raised_none k u (m * t) U first.rows i j p q (omega arith) h (inl (inr x))
          high (inr x) = raised_none k u (m * t) U first.rows i j p q (omega arith) h (inr (inr x))

          low : (p < m * t + u) ⊎ (q < m * t + u) → agree (raised (m * t + u) W) i j p q ≡ 0
          low (inl x) = raised_none k w (m * t + u) W second.rows i j p q (omega arith) h (inl (inl x))
          low (inr x) = raised_none k w (m * t + u) W second.rows i j p q (omega arith) h (inr (inl x))

pub wilson_two_is_oa : (k m t u w : ℕ) (M A E F U W : List (List ℕ)) → 2 ≤ k → 0 < m → k ≤ m + 2 → u ≤ t → w ≤ t →
    IsOa M (k + 2) t → IsOa A k m → IsOa E k (m + 1) → IsOa F k (m + 2) → IsOa U k u → IsOa W k w → IsOa (wilson_two_rows k m t u w M A E F U W) k (m * t + u + w)
unfolding two_truncated_rows
wilson_two_is_oa k m t u w M A E F U W two pos few fits fit master small large larger first second =
    filled_is_oa k (k + 2) m t (m * t + u + w) (kept k u w) (far_point k (m * t) u) pos (infinite_is k m t u w fits fit) M _ (fill_two k m t u w A (holed k m E) (holed_twice k m F)) master
    (λ a v. piece_is k m t u w A E F small large larger two few a) (ending_is k m t u w U W first second) two
