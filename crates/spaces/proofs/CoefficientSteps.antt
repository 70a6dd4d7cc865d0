-- How the coefficients are listed.
use Rattle.std.proofs.Common.{List, [], ap, arith, get_or, inl, inr, length, refl, subst, sym, true, ℕ, ◌++◌, ◌+◌, ◌<◌, ◌∙◌, ◌∷◌, ◌≡◌}
use Rattle.counting.proofs.Booleans.{cases_eq}
use Rattle.std.proofs.lemmas.List.{get_or_append_left, get_or_push, length_push}
use Rattle.design_base.specs.Fields.{field_sum, has_field}
use Rattle.field_tables.proofs.Listed.{listed_field, order_above}
use Rattle.spaces.specs.Coefficients.{AreAffine, AreProjective, AreSlopes}

pub affine-none : (add : ℕ → ℕ → ℕ) → AreAffine add 0 []
affine-none add = record { count = refl; second = λ t l. absurd (omega arith); sum_one = λ t l. absurd (omega arith) }

pub slopes-none : AreSlopes 0 []
slopes-none = record { count = refl; each = λ t l. absurd (omega arith) }

-- what a list holds at each place after a push
pushed : (P : ℕ → ℕ × ℕ → Type 0) (W : List (ℕ × ℕ)) (n : ℕ) (w : ℕ × ℕ) → length W ≡ n → ((t : ℕ) → t < n → P t (get_or W t (0, 0))) → P n w → (t : ℕ) → t < n + 1 → P t (get_or (W ++ w ∷ []) t (0, 0))
pushed P W n w e h p t l = elim (cases_eq t n) [
  | inl s ↦ subst (P t) (sym (get_or_push W w (0, 0) t (e ∙ sym s))) (subst (λ k. P k w) (sym s) p)
  | inr d ↦ subst (P t) (sym (get_or_append_left W (w ∷ []) (0, 0) t (omega arith))) (h t (omega arith))
]

pub affine-push : (add : ℕ → ℕ → ℕ) (n a : ℕ) (W : List (ℕ × ℕ)) → AreAffine add n W → add a n ≡ 1 → AreAffine add (n + 1) (W ++ (a, n) ∷ [])
affine-push add n a W h e = record {
  count = omega (arith, length_push W (a, n), h.count);
  second = pushed (λ t w. w.1 ≡ t) W n (a, n) h.count h.second refl;
  sum_one = pushed (λ t w. add w.0 t ≡ 1) W n (a, n) h.count h.sum_one e;
}

pub slopes-push : (n : ℕ) (W : List (ℕ × ℕ)) → AreSlopes n W → AreSlopes (n + 1) (W ++ (1, n) ∷ [])
slopes-push n W h = record {
  count = omega (arith, length_push W (1, n), h.count);
  each = pushed (λ t w. w ≡ (1, t)) W n (1, n) h.count h.each refl;
}

pub projective-push : (q : ℕ) (W : List (ℕ × ℕ)) → AreSlopes q W → AreProjective q (W ++ (0, 1) ∷ [])
projective-push q W h = record {
  count = omega (arith, length_push W (0, 1), h.count);
  each = λ t l. get_or_append_left W ((0, 1) ∷ []) (0, 0) t (omega (arith, h.count)) ∙ h.each t l;
  last = get_or_push W (0, 1) (0, 0) q h.count;
}

-- 1 - t and t have the sum 1
pub listed_sum_one : (q t m : ℕ) → has_field q ≡ true → field_sum q t m ≡ 0 → field_sum q (field_sum q 1 m) t ≡ 1
listed_sum_one q t m listed e =
    let r = (listed_field q listed).ring in
    r.sums_associate 1 m t ∙ ap (field_sum q 1) (r.sums_commute m t ∙ e) ∙ r.zero_neutral 1 r.one_below

pub ruleset coefficient_steps = (affine-none, slopes-none, affine-push, slopes-push, projective-push, order_above)
