-- Wilson's rows with one truncated group are an orthogonal array.
use Rattle.std.proofs.Common.{List, [], ap, arith, get_or, inl, inr, refl, ℕ, ◌*◌, ◌+◌, ◌-◌, ◌<◌, ◌∙◌, ◌∷◌, ◌≡◌, ◌≤◌}
use Rattle.counting.proofs.Booleans.{cond_both, ltb-false, ltb-true}
use Rattle.std.specs.Prelude.{nat_lt}
use Rattle.design_base.specs.Arrays.{IsOa}
use Rattle.transversal.proofs.Raise.{raised_agree, raised_none, raised_rows}
use Rattle.transversal.specs.Constructions.{raised}
use Rattle.wilson.proofs.FilledArray.{IsEnding, AreInfinite, IsPiece, filled_is_oa}
use Rattle.wilson.proofs.HoledArray.{array_is_holed, holed_is}
use Rattle.wilson.specs.Holes.{holed}
use Rattle.wilson.specs.Truncations.{fill_one, filled_rows, one_truncated_rows, wilson_one_rows}

-- the one infinite point
pub only_end : (m p s : ℕ) → m ≤ s → s < m + 1 → get_or (p ∷ []) (s - m) 0 ≡ p
only_end m p s l h = let e : s - m ≡ 0 = omega arith in ap (λ i. get_or (p ∷ []) i 0) e

module _ (k m t u : ℕ) (M A E U : List (List ℕ)) (master : IsOa M (k + 1) t) (small : IsOa A k m) (large : IsOa E k (m + 1)) (rest : IsOa U k u) (pos : 0 < m) (fits : u ≤ t) where
  -- group k is the only one that is truncated
  infinite_is : AreInfinite k (k + 1) m t (m * t + u) (λ c. u) (λ c v. m * t + v)
  infinite_is = record {
    more = omega arith;
    finite = omega arith;
    fits = λ c l h. fits;
    high = λ c v l h b. omega arith;
    below = λ c v l h b. omega arith;
    apart = λ c d v w l h b f g i e. (omega arith, omega arith);
    point = λ p l h. (k, p - m * t, omega arith, omega arith, omega arith, omega arith);
  }

  kept : (a : List ℕ) → get_or a k 0 < u → IsPiece k (k + 1) m (λ c. u) (λ c v. m * t + v) a (filled_rows k m ((m * t + get_or a k 0) ∷ []) a (holed k m E))
  kept a l = record {
    inner = holed k m E;
    ends = (m * t + get_or a k 0) ∷ [];
    group = λ s. k;
    holed = holed_is k m E large;
    is = refl;
    truncated = λ s b d. (omega arith, omega arith, l, only_end m (m * t + get_or a k 0) s b d);
    differ = λ s z b d e f g. omega arith;
    reached = λ c b d e. (m, omega arith, omega arith, omega arith);
  }

  dropped : (a : List ℕ) → u ≤ get_or a k 0 → IsPiece k (k + 1) m (λ c. u) (λ c v. m * t + v) a (filled_rows k m [] a A)
  dropped a l = record {
    inner = A;
    ends = [];
    group = λ s. k;
    holed = array_is_holed k m A small;
    is = refl;
    truncated = λ s b d. absurd (omega arith);
    differ = λ s z b d e f g. absurd (omega arith);
    reached = λ c b d e. let f : c ≡ k = omega arith in absurd (omega (arith, e, ap (λ c. get_or a c 0) f));
  }

  ending_is : IsEnding k (k + 1) m t (m * t + u) (λ c. u) (λ c v. m * t + v) (raised (m * t) U)
  ending_is = record {
    rows = raised_rows k u (m * t) U rest.rows (m * t + u) (omega arith);
    finite = λ i j p q l h low. elim low [
      | inl a ↦ raised_none k u (m * t) U rest.rows i j p q (omega arith) h (inl (inl a))
      | inr a ↦ raised_none k u (m * t) U rest.rows i j p q (omega arith) h (inr (inl a))
    ];
    apart = λ i j c d v w l h a b lv f g lw ne. absurd (omega arith);
    inside = λ i j c v w l h a b lv lw. raised_agree k u (m * t) U rest.rows i j (m * t + v) (m * t + w) v w (omega arith) h refl refl ∙ rest.pairs i j v w l h lv lw;
  }

  piece_is : (a : List ℕ) → IsPiece k (k + 1) m (λ c. u) (λ c v. m * t + v) a (fill_one k m t u A (holed k m E) a)
  unfolding fill_one
  piece_is a = cond_both (nat_lt (get_or a k 0) u) _ _ (IsPiece k (k + 1) m (λ c. u) (λ c v. m * t + v) a) (λ e. kept a (ltb-true (get_or a k 0) u e)) (λ e. dropped a (ltb-false (get_or a k 0) u e))

  pub wilson_one_is_oa : 2 ≤ k → IsOa (wilson_one_rows k m t u M A E U) k (m * t + u)
  unfolding one_truncated_rows
  wilson_one_is_oa two = filled_is_oa k (k + 1) m t (m * t + u) (λ c. u) (λ c v. m * t + v) pos infinite_is M _ (fill_one k m t u A (holed k m E)) master (λ a v. piece_is a) ending_is two
