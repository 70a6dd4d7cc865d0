-- Filling the groups of a GDD.
use Rattle.std.proofs.Common.{List, ap, ap₂, arith, cond, inl, inr, refl, subst, sym, ℕ, ◌*◌, ◌+◌, ◌/◌, ◌<◌, ◌==◌, ◌∙◌, ◌≡◌, ◌≢◌, ◌⊎◌}
use Rattle.std.proofs.Math.Nat.{mul-add-div_right, mul_assoc, mul_comm}
use Rattle.std.proofs.lemmas.Nat.{div_below}
use Rattle.counting.proofs.Booleans.{bool_same, cases_eq, eq-eqb, eqb-true, ne_eqb}
use Rattle.std.proofs.lemmas.List.Elements.{All-append}
use Rattle.counting.specs.Sums.{sum_below, join_below}
use Rattle.design_base.specs.Blocks.{IsBibd, IsDesign, IsGdd, IsPbd, IsTd, across, cover}
use Rattle.design_base.specs.Canonical.{canonical}
use Rattle.gdd_pbd.proofs.BasicDesigns.{design_same}
use Rattle.design_base.specs.Arrays.{place}
use Rattle.gdd_pbd.specs.Filling.{rename, fill}
use Rattle.counting.proofs.Counts.{sum_below-at, sum_below-zero}
use Rattle.design_base.proofs.Cover.{cover-append, cover-join_below, cover-turn}
use Rattle.design_base.proofs.Canonical.{IsLoose, IsPointSet, KeepsApart, design_from_loose, loose_from_design}
use Rattle.counting.proofs.Ranges.{All-join_below}
use Rattle.design_base.proofs.Places.{same_place, place-below, place-rises, place-rises_inside, by_places, across-apart, across-inside}
use Rattle.gdd_pbd.proofs.Renamed.{cover-rename, cover-rename_none, sets-rename}

-- groups of g points filled with a design: `inner x y` for two points of one group, which the whole design wants as `outer`; points of
-- different groups stand together once. `Size` may be that of a BIBD, of a PBD or of a GDD
module _ (g u : ℕ) (Size : ℕ → Type 0) (G D : List (List ℕ)) (inner outer : ℕ → ℕ → ℕ) (pos : 0 < g) (gdd : IsLoose G (g * u) Size (across g)) (design : IsLoose D g Size inner)
    (between : (c d x y : ℕ) → c < d → d < u → x < g → y < g → outer (place g c x) (place g d y) ≡ 1) (within : (c x y : ℕ) → c < u → x < g → y < g → outer (place g c x) (place g c y) ≡ inner x y) where
  keeps : (j : ℕ) → KeepsApart g (place g j)
  keeps j x y l m e = (same_place g j j x y l m e).1

  copies : ℕ → ℕ → ℕ → ℕ
  copies p q j = cover (rename (place g j) D) p q

  whole : (p q : ℕ) → cover (fill g u G D) p q ≡ cover G p q + sum_below u (copies p q)
  unfolding fill copies
  whole p q = cover-append G (join_below u (λ j. rename (place g j) D)) p q ∙ ap (λ s. cover G p q + s) (cover-join_below u (λ j. rename (place g j) D) p q)

  -- a copy in another group
  away : (j c x q : ℕ) → x < g → j ≢ c → copies (place g c x) q j ≡ 0
  unfolding copies
  away j c x q l ne = cover-rename_none g (g * u) Size (place g j) D design.blocks (place g c x) q (λ z m e. ne (same_place g j c z x m l e).0)

  inside : (c x y : ℕ) → c < u → x < y → y < g → cover (fill g u G D) (place g c x) (place g c y) ≡ outer (place g c x) (place g c y)
  unfolding copies
  inside c x y l m n = omega (
    arith,
    whole (place g c x) (place g c y),
    gdd.pairs (place g c x) (place g c y) (place-rises_inside g c x y m) (omega (arith, place-below g u c y l n)),
    across-inside g c x y (omega arith) n,
    sum_below-at u c (copies (place g c x) (place g c y)) l (λ j k ne. away j c x (place g c y) (omega arith) ne),
    cover-rename g (g * u) Size (place g c) D design.blocks (keeps c) x y (omega arith) n,
    design.pairs x y m n,
    within c x y l (omega arith) n,
  )

  apart : (c d x y : ℕ) → c < d → d < u → x < g → y < g → cover (fill g u G D) (place g c x) (place g d y) ≡ outer (place g c x) (place g d y)
  unfolding copies
  apart c d x y w l m n = omega (
    arith,
    whole (place g c x) (place g d y),
    gdd.pairs (place g c x) (place g d y) (place-rises g c d x y w m) (omega (arith, place-below g u d y l n)),
    across-apart g c x d y m n (omega arith),
    between c d x y w l m n,
    sum_below-zero u (copies (place g c x) (place g d y)) (λ j k. elim (cases_eq j c) [
      | inl e ↦ cover-turn (rename (place g j) D) (place g c x) (place g d y) ∙ away j d y (place g c x) n (omega arith)
      | inr ne ↦ away j c x (place g d y) m ne
    ]),
  )

  pub fill_is_loose : IsLoose (fill g u G D) (g * u) Size outer
  unfolding fill
  fill_is_loose = record {
    blocks = All-append (IsPointSet (g * u) Size) G (join_below u (λ j. rename (place g j) D)) gdd.blocks
        (All-join_below (IsPointSet (g * u) Size) u (λ j. rename (place g j) D) (λ j l. sets-rename g (g * u) Size (place g j) D design.blocks (keeps j) (λ x m. omega (arith, place-below g u j x l m))));
    pairs = λ p q l m. by_places (λ p q. cover (fill g u G D) p q ≡ outer p q) g u pos apart inside p q l (omega arith);
  }

-- rules fill and tdfill: each two points stand together once
ones : (g u : ℕ) (Size : ℕ → Type 0) (G D : List (List ℕ)) → 0 < g → IsLoose G (g * u) Size (across g) → IsLoose D g Size (λ x y. 1) → IsLoose (fill g u G D) (g * u) Size (λ x y. 1)
ones g u Size G D pos gdd design = fill_is_loose g u Size G D (λ x y. 1) (λ x y. 1) pos gdd design (λ c d x y w l m n. refl) (λ c x y l m n. refl)

-- a GDD of u groups of g points, and a BIBD on g points
pub fill_is_bibd : (g u k : ℕ) (G D : List (List ℕ)) → 0 < g → IsGdd G k g u → IsBibd D g k 1 → IsBibd (canonical (fill g u G D)) (g * u) k 1
fill_is_bibd g u k G D pos gdd design = design_from_loose (g * u) (λ s. s ≡ k) (fill g u G D) (λ x y. 1)
    (ones g u (λ s. s ≡ k) G D pos (loose_from_design (g * u) (λ s. s ≡ k) G (across g) gdd) (loose_from_design g (λ s. s ≡ k) D (λ x y. 1) design))

-- a TD of s groups of t points, and a PBD on t points
pub td_fill_is_pbd : (s t : ℕ) (T P : List (List ℕ)) → 0 < t → IsTd T s t → IsPbd P t s → IsPbd (canonical (fill t s T P)) (s * t) s
td_fill_is_pbd s t T P pos td filler = subst (λ v. IsPbd (canonical (fill t s T P)) v s) (mul_comm t s) (design_from_loose (t * s) Sizes (fill t s T P) (λ x y. 1)
    (ones t s Sizes T P pos (loose_from_design (t * s) Sizes T (across t) (design_same T (t * s) (λ z. z ≡ s) Sizes (across t) (across t) (λ z e. inl e) (λ x y l m. refl) td)) (loose_from_design t Sizes P (λ x y. 1) filler)))
  where
    Sizes : ℕ → Type 0
    Sizes z = (z ≡ s) ⊎ (z ≡ s + 1)

-- ---- groups of g points inside groups of g * c points
regroup : (j g c : ℕ) → j * (g * c) ≡ j * c * g
regroup j g c = omega arith

group_of : (g c j x : ℕ) → 0 < g → (j * (g * c) + x) / g ≡ j * c + x / g
group_of g c j x pos = ap (λ n. (n + x) / g) (regroup j g c) ∙ mul-add-div_right pos (j * c) x

left_out : (a x y : ℕ) → a + x ≡ a + y → x ≡ y
left_out a x y e = omega arith

across-shifted : (g c j x y : ℕ) → 0 < g → across g (place (g * c) j x) (place (g * c) j y) ≡ across g x y
unfolding across place
across-shifted g c j x y pos = ap₂ (λ a b. cond (a == b) 0 1) (group_of g c j x pos) (group_of g c j y pos)
    ∙ ap (λ t. cond t 0 1) (bool_same _ _ (λ e. eq-eqb (x / g) (y / g) (left_out (j * c) (x / g) (y / g) (eqb-true _ _ e))) (λ e. eq-eqb (j * c + x / g) (j * c + y / g) (ap (λ q. j * c + q) (eqb-true (x / g) (y / g) e))))

across-different : (g c j k x y : ℕ) → 0 < g → j < k → x < g * c → y < g * c → across g (place (g * c) j x) (place (g * c) k y) ≡ 1
unfolding across place
across-different g c j k x y pos l m n = ap (λ t. cond t 0 1) (ne_eqb ((j * (g * c) + x) / g) ((k * (g * c) + y) / g) (λ e.
    omega (arith, same_place c j k (x / g) (y / g) (div_below x g c pos (omega arith)) (div_below y g c pos (omega arith)) (sym (group_of g c j x pos) ∙ e ∙ group_of g c k y pos))))

-- rule split: a GDD of h groups of g * c points, and a GDD of c groups of g points
pub split_is_gdd : (g c h k : ℕ) (G D : List (List ℕ)) → 0 < g → 0 < c → IsGdd G k (g * c) h → IsGdd D k g c → IsGdd (canonical (fill (g * c) h G D)) k g (c * h)
split_is_gdd g c h k G D posg posc master filler = subst (λ v. IsDesign (canonical (fill (g * c) h G D)) v (λ s. s ≡ k) (across g)) (mul_assoc g c h) (design_from_loose (g * c * h) (λ s. s ≡ k) (fill (g * c) h G D) (across g)
    (fill_is_loose (g * c) h (λ s. s ≡ k) G D (across g) (across g) (grind arith) (loose_from_design (g * c * h) (λ s. s ≡ k) G (across (g * c)) master) (loose_from_design (g * c) (λ s. s ≡ k) D (across g) filler)
    (λ i j x y w l m n. across-different g c i j x y posg w m n) (λ j x y l m n. across-shifted g c j x y posg)))
