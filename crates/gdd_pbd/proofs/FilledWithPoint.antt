-- Filling each group of a GDD together with one point more.
use Rattle.std.proofs.Common.{◌≡◌, ℕ, ◌+◌, ◌*◌, ◌/◌, ◌%◌, ◌<◌, ◌≤◌, ◌≢◌, List, ◌⊎◌, refl, ap, ap₂, subst, sym, ◌∙◌, arith, inl, inr, ◌&&◌}
use Rattle.std.specs.Prelude.{All}
use Rattle.counting.proofs.Booleans.{both, cases_eq, cases_lt, cond_above, cond_below}
use Rattle.std.proofs.Math.Nat.{mod-lt}
use Rattle.std.proofs.lemmas.Nat.{div_below}
use Rattle.gdd_pbd.proofs.BasicDesigns.{design_same}
use Rattle.std.proofs.lemmas.List.Elements.{All-append, All-weaker}
use Rattle.counting.specs.Sums.{one, sum_below, join_below}
use Rattle.design_base.specs.Blocks.{holds, cover, across, IsBibd, IsGdd, IsTd, IsPbd}
use Rattle.design_base.specs.Canonical.{canonical}
use Rattle.design_base.specs.Arrays.{place}
use Rattle.gdd_pbd.specs.Filling.{fill_with_point, rename, with_point}
use Rattle.counting.proofs.Counts.{sum_below-at, sum_below-zero, one-false}
use Rattle.counting.proofs.Lists.{each-weaker, sum_by-none}
use Rattle.design_base.proofs.Cover.{cover-is, cover-append, cover-join_below, cover-turn}
use Rattle.design_base.proofs.Canonical.{IsLoose, IsPointSet, KeepsApart, design_from_loose, loose_from_design}
use Rattle.counting.proofs.Ranges.{All-join_below}
use Rattle.design_base.proofs.Places.{same_place, place-below, place-rises, place-rises_inside, place_of, by_places, across-apart, across-inside}
use Rattle.design_base.proofs.Points.{each_at}
use Rattle.gdd_pbd.proofs.Renamed.{cover-rename, cover-rename_none, sets-rename}

pub with_point-below : (g u j p : ℕ) → p < g → with_point g u j p ≡ place g j p
unfolding with_point
with_point-below g u j p l = sym (cond_below p g (place g j p) (place g u 0) l)

pub with_point-last : (g u j p : ℕ) → g ≤ p → with_point g u j p ≡ place g u 0
unfolding with_point
with_point-last g u j p l = sym (cond_above p g (place g j p) (place g u 0) (place g u 0) l refl)

last-is : (g u : ℕ) → place g u 0 ≡ g * u
unfolding place
last-is g u = omega arith

-- the points that no block of points below v reaches
pub cover_outside : (v : ℕ) (Size : ℕ → Type 0) (B : List (List ℕ)) → All (IsPointSet v Size) B → (p q : ℕ) → v ≤ q → cover B p q ≡ 0
cover_outside v Size B sets p q l = cover-is B p q ∙ sum_by-none (IsPointSet v Size) (λ b. one (holds p b && holds q b)) B sets
    (λ b s. one-false _ (λ e. omega (arith, each_at (λ x. x < v) q b s.below (both _ _ e).1)))

module _ (g u : ℕ) (Size : ℕ → Type 0) (G D : List (List ℕ)) (pos : 0 < g) (gdd : IsLoose G (g * u) Size (across g)) (design : IsLoose D (g + 1) Size (λ x y. 1)) where
  keeps : (j : ℕ) → j < u → KeepsApart (g + 1) (with_point g u j)
  keeps j l x y lx ly e = elim (cases_lt x g) [
    | inl a ↦ elim (cases_lt y g) [
      | inl b ↦ (same_place g j j x y a b (sym (with_point-below g u j x a) ∙ e ∙ with_point-below g u j y b)).1
      | inr b ↦ absurd (omega (arith, same_place g j u x 0 a pos (sym (with_point-below g u j x a) ∙ e ∙ with_point-last g u j y b)))
    ]
    | inr a ↦ elim (cases_lt y g) [
      | inl b ↦ absurd (omega (arith, same_place g u j 0 y pos b (sym (with_point-last g u j x a) ∙ e ∙ with_point-below g u j y b)))
      | inr b ↦ omega arith
    ]
  ]

  into : (j x : ℕ) → j < u → x < g + 1 → with_point g u j x < g * u + 1
  into j x l lx = elim (cases_lt x g) [
    | inl a ↦ omega (arith, with_point-below g u j x a, place-below g u j x l a)
    | inr a ↦ omega (arith, with_point-last g u j x a, last-is g u)
  ]

  copies : ℕ → ℕ → ℕ → ℕ
  copies p q j = cover (rename (with_point g u j) D) p q

  whole : (p q : ℕ) → cover (fill_with_point g u G D) p q ≡ cover G p q + sum_below u (copies p q)
  unfolding fill_with_point copies
  whole p q = cover-append G _ p q ∙ ap (λ s. cover G p q + s) (cover-join_below u (λ j. rename (with_point g u j) D) p q)

  -- a copy in another group
  away : (j c x q : ℕ) → c < u → x < g → j ≢ c → copies (place g c x) q j ≡ 0
  unfolding copies
  away j c x q lc l ne = cover-rename_none (g + 1) (g * u + 1) Size (with_point g u j) D design.blocks (place g c x) q (λ z m e. elim (cases_lt z g) [
    | inl a ↦ ne (same_place g j c z x a l (sym (with_point-below g u j z a) ∙ e)).0
    | inr a ↦ omega (arith, same_place g u c 0 x pos l (sym (with_point-last g u j z a) ∙ e))
  ])

  own : (j x y : ℕ) → j < u → x < y → y < g + 1 → copies (with_point g u j x) (with_point g u j y) j ≡ 1
  unfolding copies
  own j x y l lx ly = cover-rename (g + 1) (g * u + 1) Size (with_point g u j) D design.blocks (keeps j l) x y (omega arith) ly ∙ design.pairs x y lx ly

  inside : (c x y : ℕ) → c < u → x < y → y < g → cover (fill_with_point g u G D) (place g c x) (place g c y) ≡ 1
  inside c x y l m n = omega (
    arith,
    whole (place g c x) (place g c y),
    gdd.pairs (place g c x) (place g c y) (place-rises_inside g c x y m) (omega (arith, place-below g u c y l n)),
    across-inside g c x y (omega arith) n,
    sum_below-at u c (copies (place g c x) (place g c y)) l (λ j k ne. away j c x (place g c y) l (omega arith) ne),
    own c x y l m (omega arith),
    ap₂ (λ p q. copies p q c) (with_point-below g u c x (omega arith)) (with_point-below g u c y n),
  )

  apart : (c d x y : ℕ) → c < d → d < u → x < g → y < g → cover (fill_with_point g u G D) (place g c x) (place g d y) ≡ 1
  unfolding copies
  apart c d x y w l m n = omega (
    arith,
    whole (place g c x) (place g d y),
    gdd.pairs (place g c x) (place g d y) (place-rises g c d x y w m) (omega (arith, place-below g u d y l n)),
    across-apart g c x d y m n (omega arith),
    sum_below-zero u (copies (place g c x) (place g d y)) (λ j k. elim (cases_eq j c) [
      | inl e ↦ cover-turn (rename (with_point g u j) D) (place g c x) (place g d y) ∙ away j d y (place g c x) l n (omega arith)
      | inr ne ↦ away j c x (place g d y) (omega arith) m ne
    ]),
  )

  -- a point and the last one
  ending : (c x : ℕ) → c < u → x < g → cover (fill_with_point g u G D) (place g c x) (place g u 0) ≡ 1
  ending c x l m = omega (
    arith,
    whole (place g c x) (place g u 0),
    cover_outside (g * u) Size G gdd.blocks (place g c x) (place g u 0) (omega (arith, last-is g u)),
    sum_below-at u c (copies (place g c x) (place g u 0)) l (λ j k ne. away j c x (place g u 0) l m ne),
    own c x g l m (omega arith),
    ap₂ (λ p q. copies p q c) (with_point-below g u c x m) (with_point-last g u c g (omega arith)),
  )

  pub fill_with_point_is_loose : IsLoose (fill_with_point g u G D) (g * u + 1) Size (λ x y. 1)
  unfolding fill_with_point
  fill_with_point_is_loose = record {
    blocks = All-append (IsPointSet (g * u + 1) Size) G (join_below u (λ j. rename (with_point g u j) D))
        (All-weaker (IsPointSet (g * u) Size) (IsPointSet (g * u + 1) Size) (λ b s. record { differs = s.differs; below = each-weaker (λ x. x < g * u) (λ x. x < g * u + 1) (λ x l. omega arith) b s.below; size = s.size }) G gdd.blocks)
        (All-join_below (IsPointSet (g * u + 1) Size) u (λ j. rename (with_point g u j) D) (λ j l. sets-rename (g + 1) (g * u + 1) Size (with_point g u j) D design.blocks (keeps j l) (λ x m. into j x l m)));
    pairs = λ p q l m. elim (cases_lt q (g * u)) [
      | inl a ↦ by_places (λ p q. cover (fill_with_point g u G D) p q ≡ 1) g u pos apart inside p q l (omega arith)
      | inr a ↦ let e : place g u 0 ≡ q = omega (arith, last-is g u) in
          subst (λ q. cover (fill_with_point g u G D) p q ≡ 1) e (subst (λ p. cover (fill_with_point g u G D) p (place g u 0) ≡ 1) (place_of g p)
          (ending (p / g) (p % g) (div_below p g u pos (omega arith)) (mod-lt p pos)))
    ];
  }

-- rule fill1: a GDD of type g^u and a BIBD on g + 1 points
pub fill_with_point_is_bibd : (g u k : ℕ) (G D : List (List ℕ)) → 0 < g → IsGdd G k g u → IsBibd D (g + 1) k 1 → IsBibd (canonical (fill_with_point g u G D)) (g * u + 1) k 1
fill_with_point_is_bibd g u k G D pos gdd design = design_from_loose (g * u + 1) (λ s. s ≡ k) (fill_with_point g u G D) (λ x y. 1)
    (fill_with_point_is_loose g u (λ s. s ≡ k) G D pos (loose_from_design (g * u) (λ s. s ≡ k) G (across g) gdd) (loose_from_design (g + 1) (λ s. s ≡ k) D (λ x y. 1) design))

-- rule tdfill1: a TD with c groups of t points, where c is s or s + 1, and a PBD on t + 1 points
pub td_fill_with_point_is_pbd : (s t c : ℕ) (T P : List (List ℕ)) → 0 < t → (c ≡ s) ⊎ (c ≡ s + 1) → IsTd T c t → IsPbd P (t + 1) s → IsPbd (canonical (fill_with_point t c T P)) (t * c + 1) s
td_fill_with_point_is_pbd s t c T P pos size td filler = design_from_loose (t * c + 1) (λ z. (z ≡ s) ⊎ (z ≡ s + 1)) (fill_with_point t c T P) (λ x y. 1)
    (fill_with_point_is_loose t c (λ z. (z ≡ s) ⊎ (z ≡ s + 1)) T P pos
    (loose_from_design (t * c) (λ z. (z ≡ s) ⊎ (z ≡ s + 1)) T (across t) (design_same T (t * c) (λ z. z ≡ c) (λ z. (z ≡ s) ⊎ (z ≡ s + 1)) (across t) (across t) (λ z e. sized z e size) (λ x y l m. refl) td))
    (loose_from_design (t + 1) (λ z. (z ≡ s) ⊎ (z ≡ s + 1)) P (λ x y. 1) filler))
  where
    sized : (z : ℕ) → z ≡ c → (c ≡ s) ⊎ (c ≡ s + 1) → (z ≡ s) ⊎ (z ≡ s + 1)
    sized z e (inl a) = inl (e ∙ a)
    sized z e (inr a) = inr (e ∙ a)
