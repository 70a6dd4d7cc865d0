-- The pairs i + s and i - s modulo an odd number u, and u with i, are a one-factorization of u + 1 points.
use Rattle.std.proofs.Common.{[], ap, arith, inl, inr, refl, subst, suc, sym, true, zero, ℕ, ◌&&◌, ◌%◌, ◌*◌, ◌+◌, ◌-◌, ◌/◌, ◌<◌, ◌∙◌, ◌∷◌, ◌≡◌, ◌≢◌, ◌≤◌, ◌⊎◌}
use Rattle.std.proofs.Math.Nat.{add-mul-mod_self_right, div-add-mod', le_dest, mod-eq_of_lt, mod-lt}
use Rattle.std.proofs.lemmas.Bool.Decides.{nat_tests}
use Rattle.std.proofs.lemmas.List.Elements.{All-from_recursion}
use Rattle.std.specs.Prelude.{if◌then◌else◌}
use Rattle.block_counts.proofs.Flags.{replication-is}
use Rattle.counting.proofs.Booleans.{and_from, both, cases_eq, cases_lt, ne_eqb}
use Rattle.counting.proofs.Counts.{count_one, grid_one, sum_below-same}
use Rattle.counting.proofs.Ranges.{each_below}
use Rattle.counting.proofs.Totals.{sum_by-list_below}
use Rattle.counting.specs.Sums.{list_below, one, sum_below}
use Rattle.design_base.proofs.Cover.{cover-each}
use Rattle.design_base.specs.Blocks.{holds, replication}
use Rattle.three_designs.specs.Quadruples.{factor, factor_pair, first_point, second_point}
use Rattle.three_designs.proofs.Doubled.{IsOneFactorization}
use Rattle.three_designs.proofs.Triples.{IsSet}

-- a number below 2 u, reduced
reduced : (a u : ℕ) → a < u + u → ((a < u) × (a % u ≡ a)) ⊎ ((u ≤ a) × (a % u + u ≡ a))
reduced a u l = elim (cases_lt a u) [
  | inl m ↦ inl (m, mod-eq_of_lt m)
  | inr m ↦ let d = le_dest m in inr (m, omega (arith, d.1, ap (λ t. t % u) (let e : d.0 + 1 * u ≡ a = omega (arith, d.1) in e), add-mul-mod_self_right d.0 1 u, mod-eq_of_lt (let h : d.0 < u = omega (arith, d.1) in h)))
]

-- x is i + s modulo u
abbrev IsUp : ℕ → ℕ → ℕ → ℕ → Type 0
IsUp u i s x = (i + s ≡ x) ⊎ (i + s ≡ x + u)

-- x is i - s modulo u
abbrev IsDown : ℕ → ℕ → ℕ → ℕ → Type 0
IsDown u i s x = (i ≡ x + s) ⊎ (i + u ≡ x + s)

module _ (u i s : ℕ) (li : i < u) (ls : s < u) where
  up_is : (x : ℕ) → (i + s) % u ≡ x → IsUp u i s x
  up_is x e = let r = reduced (i + s) u (omega arith) in grind arith

  up_from : (x : ℕ) → x < u → IsUp u i s x → (i + s) % u ≡ x
  up_from x l e = let r = reduced (i + s) u (omega arith) in grind arith

  down_is : (x : ℕ) → (i + (u - s)) % u ≡ x → IsDown u i s x
  down_is x e = elim (reduced (i + (u - s)) u (omega arith)) [ inl r ↦ inr (omega (arith, r.1)) | inr r ↦ inl (omega (arith, r.1)) ]

  down_from : (x : ℕ) → x < u → 0 < s → IsDown u i s x → (i + (u - s)) % u ≡ x
  down_from x l pos e = elim (reduced (i + (u - s)) u (omega arith)) [ inl r ↦ omega (arith, r.1, e) | inr r ↦ omega (arith, r.1, e) ]

half : (d : ℕ) → ((e : ℕ) × (d ≡ 2 * e)) ⊎ ((e : ℕ) × (d ≡ 2 * e + 1))
half d = elim (cases_lt (d % 2) 1) [
  | inl l ↦ inl (d / 2, omega (arith, div-add-mod' d 2))
  | inr l ↦ inr (d / 2, omega (arith, div-add-mod' d 2, mod-lt d (let h : 0 < 2 = omega arith in h)))
]

half_of : (m : ℕ) → 2 * m / 2 ≡ m
half_of m = omega (arith, div-add-mod' (2 * m) 2, mod-lt (2 * m) (let h : 0 < 2 = omega arith in h))

pair_holds : (p q x : ℕ) → holds x (p ∷ (q ∷ [])) ≡ true → (p ≡ x) ⊎ (q ≡ x)
unfolding holds
pair_holds p q x h = grind (arith, nat_tests)

pair_holds-from : (p q x : ℕ) → (p ≡ x) ⊎ (q ≡ x) → holds x (p ∷ (q ∷ [])) ≡ true
unfolding holds
pair_holds-from p q x h = grind (arith, nat_tests)

-- x stands in pair s of factor i
abbrev Stands : ℕ → ℕ → ℕ → ℕ → Type 0
Stands u i s x = ((0 < s) × IsUp u i s x) ⊎ IsDown u i s x

-- the pair by its two points
pair_zero : (u i : ℕ) → i < u → factor_pair u i 0 ≡ u ∷ (i ∷ [])
unfolding first_point second_point
pair_zero u i l = ap (λ t. u ∷ (t ∷ [])) (ap (λ t. t % u) (let e : i + (u - 0) ≡ i + 1 * u = omega arith in e) ∙ add-mul-mod_self_right i 1 u ∙ mod-eq_of_lt l)

pair_suc : (u i s : ℕ) → factor_pair u i (suc s) ≡ (i + suc s) % u ∷ ((i + (u - suc s)) % u ∷ [])
unfolding first_point second_point
pair_suc u i s = ap (λ t. (if t then u else (i + suc s) % u) ∷ ((i + (u - suc s)) % u ∷ [])) (ne_eqb (suc s) 0 (omega arith))

module _ (u i : ℕ) (li : i < u) where
  pos : 0 < u
  pos = omega arith

  holds_stands : (s x : ℕ) → s < u → x < u → holds x (factor_pair u i s) ≡ true → Stands u i s x
  holds_stands zero x ls lx h = elim (pair_holds u i x (ap (holds x) (sym (pair_zero u i li)) ∙ h)) [ inl e ↦ absurd (omega arith) | inr e ↦ inr (inl (omega arith)) ]
  holds_stands (suc s) x ls lx h = elim (pair_holds _ _ x (ap (holds x) (sym (pair_suc u i s)) ∙ h)) [
    | inl e ↦ inl (omega arith, up_is u i (suc s) li ls x e)
    | inr e ↦ inr (down_is u i (suc s) li ls x e)
  ]

  stands_holds : (s x : ℕ) → s < u → x < u → Stands u i s x → holds x (factor_pair u i s) ≡ true
  stands_holds zero x ls lx h = ap (holds x) (pair_zero u i li) ∙ pair_holds-from u i x (inr (omega (arith, h)))
  stands_holds (suc s) x ls lx (inl h) = ap (holds x) (pair_suc u i s) ∙ pair_holds-from _ _ x (inl (up_from u i (suc s) li ls x lx h.1))
  stands_holds (suc s) x ls lx (inr h) = ap (holds x) (pair_suc u i s) ∙ pair_holds-from _ _ x (inr (down_from u i (suc s) li ls x lx (omega arith) h))

  -- the last point stands in the first pair alone
  top_first : holds u (factor_pair u i 0) ≡ true
  top_first = ap (holds u) (pair_zero u i li) ∙ pair_holds-from u i u (inl refl)

  top_only : (s : ℕ) → s < u → holds u (factor_pair u i s) ≡ true → s ≡ 0
  top_only zero ls h = refl
  top_only (suc s) ls h = absurd (elim (pair_holds _ _ u (ap (holds u) (sym (pair_suc u i s)) ∙ h)) [ inl e ↦ omega (arith, mod-lt (i + suc s) pos, e) | inr e ↦ omega (arith, mod-lt (i + (u - suc s)) pos, e) ])

module _ (u m : ℕ) (odd : u + 1 ≡ 2 * m) where
  small : (s : ℕ) → s < m → (i : ℕ) → i < u → s < u
  small s l i h = omega arith

  pair_set : (i s : ℕ) → i < u → s < m → IsSet (u + 1) 2 (factor_pair u i s)
  pair_set i zero li ls = subst (IsSet (u + 1) 2) (sym (pair_zero u i li)) (record {
    differs = (((λ e. omega arith), tt), (tt, tt));
    below = (omega arith, (omega arith, tt));
    size = refl;
  })
  pair_set i (suc s) li ls = subst (IsSet (u + 1) 2) (sym (pair_suc u i s)) (record {
    differs = ((apart, tt), (tt, tt));
    below = (omega (arith, mod-lt (i + suc s) (pos u i li)), (omega (arith, mod-lt (i + (u - suc s)) (pos u i li)), tt));
    size = refl;
  })
    where
      apart : (i + suc s) % u ≢ (i + (u - suc s)) % u
      apart e =
          let a : IsUp u i (suc s) ((i + suc s) % u) = up_is u i (suc s) li (small (suc s) ls i li) ((i + suc s) % u) refl in
          let b : IsDown u i (suc s) ((i + suc s) % u) = down_is u i (suc s) li (small (suc s) ls i li) ((i + suc s) % u) (sym e) in
          omega (arith, a, b)

  -- each point stands in one pair of a factor
  stands_once : (i s t x : ℕ) → i < u → s < m → t < m → x < u → Stands u i s x → Stands u i t x → s ≡ t
  stands_once i s t x li ls lt lx a b = omega (arith, a, b)

  stands_somewhere : (i x : ℕ) → i < u → x < u → (s : ℕ) × (s < m) × Stands u i s x
  stands_somewhere i x li lx = elim (cases_lt i x) [
    | inl l ↦ let d = le_dest l in elim (cases_lt (suc d.0) m) [
      | inl h ↦ (suc d.0, h, inl (omega arith, inl (omega (arith, d.1))))
      | inr h ↦ let e = le_dest (let g : suc d.0 ≤ u = omega (arith, d.1) in g) in (e.0, omega (arith, e.1, d.1), inr (inr (omega (arith, e.1, d.1))))
    ]
    | inr l ↦ let d = le_dest l in elim (cases_lt d.0 m) [
      | inl h ↦ (d.0, h, inr (inl (omega (arith, d.1))))
      | inr h ↦ let e = le_dest (let g : d.0 ≤ u = omega (arith, d.1) in g) in (e.0, omega (arith, e.1, d.1), inl (omega (arith, e.1, d.1), inr (omega (arith, e.1, d.1))))
    ]
  ]

  -- two points stand together in one pair of one factor
  together_once : (i s j t x y : ℕ) → i < u → s < m → j < u → t < m → x < y → y < u → Stands u i s x → Stands u i s y → Stands u j t x → Stands u j t y → (i ≡ j) × (s ≡ t)
  together_once i s j t x y li ls lj lt l h a b c d = (omega (arith, a, b, c, d), omega (arith, a, b, c, d))

  together : (x y : ℕ) → x < y → y < u → (i : ℕ) × (s : ℕ) × (i < u) × (s < m) × Stands u i s x × Stands u i s y
  together x y l h = by (le_dest (let g : x ≤ y = omega arith in g)).0 (le_dest (let g : x ≤ y = omega arith in g)).1
    where
      odd_step : (e : ℕ) → x + (2 * e + 1) ≡ y → (i : ℕ) × (s : ℕ) × (i < u) × (s < m) × Stands u i s x × Stands u i s y
      odd_step e g =
          let s = le_dest (let k : e + 1 ≤ m = omega arith in k) in
          elim (cases_lt (x + e + m) u) [
            | inl k ↦ (x + e + m, s.0, k, omega (arith, s.1), inl (omega (arith, s.1), inr (omega (arith, s.1))), inr (inl (omega (arith, s.1))))
            | inr k ↦ let i = le_dest k in (i.0, s.0, omega (arith, i.1), omega (arith, s.1), inl (omega (arith, s.1), inl (omega (arith, s.1, i.1))), inr (inr (omega (arith, s.1, i.1))))
          ]

      by : (d : ℕ) → x + d ≡ y → (i : ℕ) × (s : ℕ) × (i < u) × (s < m) × Stands u i s x × Stands u i s y
      by d e = elim (half d) [
        | inl k ↦ (x + k.0, k.0, omega (arith, k.1), omega (arith, k.1), inr (inl (omega (arith, k.1))), inl (omega (arith, k.1), inl (omega (arith, k.1))))
        | inr k ↦ odd_step k.0 (omega (arith, k.1))
      ]

  factorized : IsOneFactorization (u + 1) u (λ i. list_below m (factor_pair u i))
  factorized = record {
    sets = λ i li. All-from_recursion (IsSet (u + 1) 2) _ (each_below (IsSet (u + 1) 2) m (factor_pair u i) (λ s ls. pair_set i s li ls));
    each = each;
    pairs = λ x y l h. sum_below-same u _ (λ i. sum_below m (λ s. one (holds x (factor_pair u i s) && holds y (factor_pair u i s)))) (λ i li. cover-each m (factor_pair u i) x y) ∙ pairs x y l h;
  }
    where
      each : (i x : ℕ) → i < u → x < u + 1 → replication (list_below m (factor_pair u i)) x ≡ 1
      each i x li lx = replication-is (list_below m (factor_pair u i)) x ∙ sum_by-list_below (λ b. one (holds x b)) m (factor_pair u i)
          ∙ elim (cases_eq x u) [
            | inl top ↦ count_one m 0 (λ s. holds x (factor_pair u i s)) (omega arith) (ap (λ x. holds x (factor_pair u i 0)) top ∙ top_first u i li)
                (λ s ls t. top_only u i li s (small s ls i li) (ap (λ x. holds x (factor_pair u i s)) (sym top) ∙ t))
            | inr ne ↦ let low : x < u = omega arith in let w = stands_somewhere i x li low in
                count_one m w.0 (λ s. holds x (factor_pair u i s)) w.1 (stands_holds u i li w.0 x (small w.0 w.1 i li) low w.2)
                (λ s ls t. stands_once i s w.0 x li ls w.1 low (holds_stands u i li s x (small s ls i li) low t) w.2)
          ]

      pairs : (x y : ℕ) → x < y → y < u + 1 → sum_below u (λ i. sum_below m (λ s. one (holds x (factor_pair u i s) && holds y (factor_pair u i s)))) ≡ 1
      pairs x y l h = elim (cases_eq y u) [
        | inl top ↦ let low : x < u = omega arith in
            grid_one u m x 0 (λ i s. holds x (factor_pair u i s) && holds y (factor_pair u i s)) low (omega arith)
            (and_from _ _ (stands_holds u x low 0 x (omega arith) low (inr (inl (omega arith)))) (ap (λ y. holds y (factor_pair u x 0)) top ∙ top_first u x low))
            (λ i s li ls t.
            let g = both (holds x (factor_pair u i s)) (holds y (factor_pair u i s)) t in
            let zero_is : s ≡ 0 = top_only u i li s (small s ls i li) (ap (λ y. holds y (factor_pair u i s)) (sym top) ∙ g.1) in
            let st : Stands u i s x = holds_stands u i li s x (small s ls i li) low g.0 in
            (omega (arith, st, zero_is), zero_is))
        | inr ne ↦ let low : y < u = omega arith in let lx : x < u = omega arith in
            let w = together x y l low in
            grid_one u m w.0 w.1 (λ i s. holds x (factor_pair u i s) && holds y (factor_pair u i s)) w.2 w.3
            (and_from _ _ (stands_holds u w.0 w.2 w.1 x (small w.1 w.3 w.0 w.2) lx w.4) (stands_holds u w.0 w.2 w.1 y (small w.1 w.3 w.0 w.2) low w.5))
            (λ i s li ls t.
            let g = both (holds x (factor_pair u i s)) (holds y (factor_pair u i s)) t in
            together_once i s w.0 w.1 x y li ls w.2 w.3 l low (holds_stands u i li s x (small s ls i li) lx g.0) (holds_stands u i li s y (small s ls i li) low g.1) w.4 w.5)
      ]

-- the factors of an even number of points
pub factors_of : (m : ℕ) → 0 < m → IsOneFactorization (2 * m) (2 * m - 1) (factor (2 * m))
unfolding factor
factors_of m pos =
    let half : 2 * m / 2 ≡ m = half_of m in
    let odd : 2 * m - 1 + 1 ≡ 2 * m = omega arith in
    subst (λ n. IsOneFactorization (2 * m) (2 * m - 1) (λ i. list_below n (factor_pair (2 * m - 1) i))) (sym half)
    (subst (λ w. IsOneFactorization w (2 * m - 1) (λ i. list_below m (factor_pair (2 * m - 1) i))) odd (factorized (2 * m - 1) m odd))
