-- The lines of a projective geometry: two points have one line.
use Rattle.std.proofs.Common.{List, ap, ap₂, arith, get_or, inl, inr, length, refl, subst, suc, sym, true, zero, ℕ, ◌<◌, ◌∙◌, ◌≡◌, ◌≢◌}
use Rattle.counting.proofs.Booleans.{bool_same, cases_eq, cases_lt, false≢true, or_cases, or_left, or_right}
use Rattle.std.proofs.lemmas.List.Elements.{All-from_recursion, recursion_from_All}
use Rattle.std.specs.List.{AllByRecursion}
use Rattle.counting.proofs.Ranges.{All-join_below, each_below, length-list_below}
use Rattle.counting.specs.Sums.{join_below, list_below}
use Rattle.design_base.proofs.Canonical.{Differs, differs_below}
use Rattle.design_base.proofs.Cover.{holds-append, holds-none, holds_below, holds_below-from}
use Rattle.design_base.proofs.Points.{differs_filter, holds_filter, holds_filtered}
use Rattle.design_base.specs.Blocks.{holds}
use Rattle.design_base.specs.Rings.{IsCommutativeRing}
use Rattle.field_tables.proofs.AnyField.{divide, mul-zero, mul_cancel}
use Rattle.spaces.proofs.EachLine.{HoldsEachLine, IsLineOf, IsSomeLine, among-join_below, among-list_below}
use Rattle.spaces.proofs.LinearSpaces.{IsLinearSpace}
use Rattle.spaces.proofs.Space.{IsSpace, positive, zero-scale}
use Rattle.spaces.proofs.Span.{InSpan, IsLead, IsMix, IsPoint, expand, first_in, last_in, multiple_in, multiples_same, not_zero, one_mix, same_span}
use Rattle.spaces.proofs.VectorSpaces.{IsVectorSpace}
use Rattle.spaces.specs.Lines.{points_in}

-- ---- which points a joined list and a filtered one hold
pub holds_join_below : (n x : ℕ) (f : ℕ → List ℕ) → holds x (join_below n f) ≡ true → (i : ℕ) × (i < n) × (holds x (f i) ≡ true)
unfolding join_below
holds_join_below zero x f h = absurd (false≢true (sym (holds-none x) ∙ h))
holds_join_below (suc n) x f h = elim (or_cases (holds x (join_below n f)) (holds x (f n)) (sym (holds-append x (join_below n f) (f n)) ∙ h)) [
  | inl e ↦ let t = holds_join_below n x f e in (t.0, omega (arith, t.1), t.2)
  | inr e ↦ (n, omega arith, e)
]

pub holds_join_below-from : (n x : ℕ) (f : ℕ → List ℕ) (i : ℕ) → i < n → holds x (f i) ≡ true → holds x (join_below n f) ≡ true
unfolding join_below
holds_join_below-from zero x f i l h = absurd (omega arith)
holds_join_below-from (suc n) x f i l h = holds-append x (join_below n f) (f n) ∙ elim (cases_eq i n) [
  | inl s ↦ or_right _ _ (subst (λ k. holds x (f k) ≡ true) s h)
  | inr d ↦ or_left _ _ (holds_join_below-from n x f i (omega arith) h)
]

module _ (q v : ℕ) (add mul sum scale : ℕ → ℕ → ℕ) (space : IsSpace q v add mul sum scale) (lead : ℕ → ℕ) (l : IsLead q v mul scale lead) where
  abbrev r : IsCommutativeRing q add mul
  r = space.field.ring

  abbrev s : IsVectorSpace q v add mul sum scale
  s = space.vectors

  -- different points, and the place of the point that is a multiple of a vector
  pub record ArePlaced (P : List ℕ) (place : ℕ → ℕ) : Type 0 where
    pub points : (i : ℕ) → i < length P → IsPoint q v add mul sum scale space lead l (get_or P i 0)
    pub apart : (i j : ℕ) → i < length P → j < length P → get_or P i 0 ≡ get_or P j 0 → i ≡ j
    pub small : (z : ℕ) → z < v → z ≢ 0 → place z < length P
    pub multiple : (z : ℕ) → z < v → z ≢ 0 → (c : ℕ) × (c < q) × (scale c z ≡ get_or P (place z) 0)

  -- the mixes of x and y on their line: x + t * y for each t, and y
  pub record AreCoefficients (a b : ℕ → ℕ) : Type 0 where
    pub one : (t : ℕ) → t < q → a t ≡ 1
    pub slope : (t : ℕ) → t < q → b t ≡ t
    pub last_zero : a q ≡ 0
    pub last_one : b q ≡ 1

  module _ (P : List ℕ) (place : ℕ → ℕ) (placed : ArePlaced P place) (a b : ℕ → ℕ) (coefficients : AreCoefficients a b) where
    abbrev N : ℕ
    N = length P

    abbrev at : ℕ → ℕ
    at i = get_or P i 0

    unfoldable pub mix : ℕ → ℕ → ℕ → ℕ
    mix x y t = sum (scale (a t) x) (scale (b t) y)

    a_small : (t : ℕ) → t < suc q → a t < q
    a_small t h = elim (cases_lt t q) [
      | inl m ↦ subst (λ c. c < q) (sym (coefficients.one t m)) r.one_below
      | inr m ↦ subst (λ c. c < q) (sym (ap a (let e : t ≡ q = omega arith in e) ∙ coefficients.last_zero)) (positive q v add mul sum scale space)
    ]

    b_small : (t : ℕ) → t < suc q → b t < q
    b_small t h = elim (cases_lt t q) [
      | inl m ↦ subst (λ c. c < q) (sym (coefficients.slope t m)) m
      | inr m ↦ subst (λ c. c < q) (sym (ap b (let e : t ≡ q = omega arith in e) ∙ coefficients.last_one)) r.one_below
    ]

    pub is_mix : (x y t : ℕ) → t < suc q → IsMix q v add mul sum scale space lead l x y (mix x y t) (a t) (b t)
    unfolding mix
    is_mix x y t h = record { first = a_small t h; second = b_small t h; made = refl }

    mix_small : (x y t : ℕ) → mix x y t < v
    unfolding mix
    mix_small x y t = s.sums_below (scale (a t) x) (scale (b t) y)

    abbrev In : ℕ → ℕ → ℕ → Type 0
    In i j z = InSpan q v add mul sum scale space lead l (at i) (at j) z

    -- the line of the points at i and j
    unfoldable pub pair : ℕ → ℕ → List ℕ
    pair i j = list_below (suc q) (λ t. place (mix (at i) (at j) t))

    module _ (i j : ℕ) (hi : i < N) (hj : j < N) (ne : i ≢ j) where
      differ : at i ≢ at j
      differ e = ne (placed.apart i j hi hj e)

      same_coefficients : (z m n k h : ℕ) → IsMix q v add mul sum scale space lead l (at i) (at j) z m n → IsMix q v add mul sum scale space lead l (at i) (at j) z k h → (m ≡ k) × (n ≡ h)
      same_coefficients = one_mix q v add mul sum scale space lead l (at i) (at j) (placed.points i hi) (placed.points j hj) differ

      zero_mix : IsMix q v add mul sum scale space lead l (at i) (at j) 0 0 0
      zero_mix = record {
        first = positive q v add mul sum scale space;
        second = positive q v add mul sum scale space;
        made = ap₂ sum (zero-scale q v add mul sum scale space (at i)) (zero-scale q v add mul sum scale space (at j)) ∙ s.zero_neutral 0 space.some;
      }

      mix_nonzero : (t : ℕ) → t < suc q → mix (at i) (at j) t ≢ 0
      mix_nonzero t h e =
          let w = same_coefficients 0 (a t) (b t) 0 0 (subst (λ z. IsMix q v add mul sum scale space lead l (at i) (at j) z (a t) (b t)) e (is_mix (at i) (at j) t h)) zero_mix in
          elim (cases_lt t q) [
            | inl m ↦ absurd (omega (arith, w.0, coefficients.one t m))
            | inr m ↦ absurd (omega (arith, w.1, ap b (let f : t ≡ q = omega arith in f), coefficients.last_one))
          ]

      place_small : (t : ℕ) → t < suc q → place (mix (at i) (at j) t) < N
      place_small t h = placed.small (mix (at i) (at j) t) (mix_small (at i) (at j) t) (mix_nonzero t h)

      -- the point at the place of a mix
      factor : (t : ℕ) → t < suc q → (c : ℕ) × (c < q) × (scale c (mix (at i) (at j) t) ≡ at (place (mix (at i) (at j) t)))
      factor t h = placed.multiple (mix (at i) (at j) t) (mix_small (at i) (at j) t) (mix_nonzero t h)

      placed_mix : (t : ℕ) → (h : t < suc q) → IsMix q v add mul sum scale space lead l (at i) (at j) (at (place (mix (at i) (at j) t))) (mul (factor t h).0 (a t)) (mul (factor t h).0 (b t))
      placed_mix t h = subst (λ z. IsMix q v add mul sum scale space lead l (at i) (at j) z (mul (factor t h).0 (a t)) (mul (factor t h).0 (b t))) (factor t h).2
          (multiple_in q v add mul sum scale space lead l (at i) (at j) (factor t h).0 (mix (at i) (at j) t) (a t) (b t) (is_mix (at i) (at j) t h))

      factor_nonzero : (t : ℕ) → (h : t < suc q) → (factor t h).0 ≢ 0
      factor_nonzero t h e = not_zero q v add mul sum scale space lead l (at (place (mix (at i) (at j) t))) (placed.points (place (mix (at i) (at j) t)) (place_small t h))
          (sym (factor t h).2 ∙ ap (λ c. scale c (mix (at i) (at j) t)) e ∙ zero-scale q v add mul sum scale space (mix (at i) (at j) t))

      times_one : (c t : ℕ) → c < q → t < q → mul c (a t) ≡ c
      times_one c t hc m = ap (mul c) (coefficients.one t m) ∙ r.one_neutral c hc

      -- the places on a line differ
      places_differ : (t u : ℕ) → t < u → u < suc q → place (mix (at i) (at j) t) ≢ place (mix (at i) (at j) u)
      places_differ t u h g e =
          let ht : t < suc q = omega arith in
          let m : t < q = omega arith in
          let c = factor t ht in
          let d = factor u g in
          let same = same_coefficients (at (place (mix (at i) (at j) u))) (mul c.0 (a t)) (mul c.0 (b t)) (mul d.0 (a u)) (mul d.0 (b u))
          (subst (λ k. IsMix q v add mul sum scale space lead l (at i) (at j) (at k) (mul c.0 (a t)) (mul c.0 (b t))) e (placed_mix t ht)) (placed_mix u g) in
          elim (cases_lt u q) [
            | inl k ↦ (
                let equal : c.0 ≡ d.0 = sym (times_one c.0 t c.1 m) ∙ same.0 ∙ times_one d.0 u d.1 k in
                let slopes : mul c.0 t ≡ mul c.0 u = ap (mul c.0) (sym (coefficients.slope t m)) ∙ same.1 ∙ ap₂ mul (sym equal) (coefficients.slope u k) in
                let f : t ≡ u = mul_cancel q add mul r space.field.inverses c.0 t u (let nz = factor_nonzero t ht in omega arith) c.1 m k slopes in
                omega arith)
            | inr k ↦ factor_nonzero t ht (sym (times_one c.0 t c.1 m) ∙ same.0 ∙ ap (mul d.0) (ap a (let f : u ≡ q = omega arith in f) ∙ coefficients.last_zero) ∙ mul-zero q add mul r d.0)
          ]

      -- a point on the line is in the plane of the two points
      pair_within : (u : ℕ) → holds u (pair i j) ≡ true → (u < N) × In i j (at u)
      unfolding pair
      pair_within u h =
          let t = holds_below (suc q) u (λ t. place (mix (at i) (at j) t)) h in
          let in_plane : In i j (at (place (mix (at i) (at j) t.0))) = (mul (factor t.0 t.1).0 (a t.0), mul (factor t.0 t.1).0 (b t.0), placed_mix t.0 t.1) in
          (subst (λ k. k < N) t.2 (place_small t.0 t.1), subst (λ k. In i j (at k)) t.2 in_plane)

      -- and a point that is a multiple of a mix is on the line
      pair_holds : (u t k : ℕ) → u < N → t < suc q → k < q → scale k (mix (at i) (at j) t) ≡ at u → holds u (pair i j) ≡ true
      unfolding pair
      pair_holds u t k hu ht hk e = holds_below-from (suc q) u (λ t. place (mix (at i) (at j) t)) t ht
          (placed.apart (place (mix (at i) (at j) t)) u (place_small t ht) hu
          (multiples_same q v add mul sum scale space lead l (at (place (mix (at i) (at j) t))) (at u) (mix (at i) (at j) t) (factor t ht).0 k
          (placed.points (place (mix (at i) (at j) t)) (place_small t ht)) (placed.points u hu) (mix_small (at i) (at j) t) (factor t ht).1 hk (factor t ht).2 e))

      within_pair : (u : ℕ) → u < N → In i j (at u) → holds u (pair i j) ≡ true
      unfolding mix
      within_pair u hu h = elim (cases_eq h.0 0) [
        | inl none ↦ pair_holds u q h.1 hu (omega arith) h.2.second
            (expand q v add mul sum scale space lead l h.1 (a q) (b q) (at i) (at j)
            ∙ ap₂ (λ m n. sum (scale m (at i)) (scale n (at j))) (ap (mul h.1) coefficients.last_zero ∙ mul-zero q add mul r h.1 ∙ sym none) (ap (mul h.1) coefficients.last_one ∙ r.one_neutral h.1 h.2.second) ∙ h.2.made)
        | inr some ↦ (
            let t = divide q add mul r space.field.inverses h.0 h.1 (let nz = some in omega arith) h.2.first h.2.second in
            pair_holds u t.0 h.0 hu (omega (arith, t.1)) h.2.first
            (expand q v add mul sum scale space lead l h.0 (a t.0) (b t.0) (at i) (at j)
            ∙ ap₂ (λ m n. sum (scale m (at i)) (scale n (at j))) (times_one h.0 t.0 h.2.first t.1) (ap (mul h.0) (coefficients.slope t.0 t.1) ∙ t.2) ∙ h.2.made))
      ]

      pub pair_differs : Differs (pair i j)
      unfolding pair
      pair_differs = differs_below (suc q) (λ t. place (mix (at i) (at j) t)) (λ t u h g. places_differ t u h g)

      pub pair_below : AllByRecursion (λ z. z < N) (pair i j)
      unfolding pair
      pair_below = each_below (λ z. z < N) (suc q) (λ t. place (mix (at i) (at j) t)) place_small

      -- ---- the points of a plane
      module _ (plane : List ℕ) (in_plane : (z : ℕ) → holds z plane ≡ true → In i j z) (plane_holds : (z : ℕ) → In i j z → holds z plane ≡ true) where
        pub points_differ : Differs (points_in P plane)
        unfolding points_in
        points_differ = differs_filter (λ k. holds (at k) plane) (list_below N (λ i. i)) (differs_below N (λ i. i) (λ i j h g e. absurd (omega arith)))

        pub same_points : (u : ℕ) → holds u (points_in P plane) ≡ holds u (pair i j)
        unfolding points_in
        same_points u = bool_same _ _
            (λ h. let t = holds_filter (λ k. holds (at k) plane) N u h in within_pair u t.0 (in_plane (at u) t.1))
            (λ h. let t = pair_within u h in holds_filtered (λ k. holds (at k) plane) N u t.0 ∙ plane_holds (at u) t.1)

    pair_size : (i j : ℕ) → length (pair i j) ≡ suc q
    unfolding pair
    pair_size i j = length-list_below (suc q) (λ t. place (mix (at i) (at j) t))

    pub linear : IsLinearSpace N (suc q) pair
    linear = record {
      set = λ x y h g. record {
        differs = pair_differs x y (omega arith) g (λ e. absurd (omega arith));
        below = pair_below x y (omega arith) g (λ e. absurd (omega arith));
        size = pair_size x y;
      };
      first = λ x y h g. let hx : x < N = omega arith in
          within_pair x y hx g (λ e. absurd (omega arith)) x hx (first_in q v add mul sum scale space lead l (at x) (at y) (placed.points x hx).small);
      second = λ x y h g. within_pair x y (omega arith) g (λ e. absurd (omega arith)) y g (last_in q v add mul sum scale space lead l (at x) (at y) (placed.points y g).small);
      joins = λ x y z w u h g k m hz hw.
          let hx : x < N = omega arith in
          let ne : x ≢ y = (λ e. absurd (omega arith)) in
          let nz : z ≢ w = (λ e. absurd (omega arith)) in
          let lz : z < N = omega arith in
          let alike = same_span q v add mul sum scale space lead l (at x) (at y) (at z) (at w) (placed.points y g) (placed.points z lz) (placed.points w m)
          (λ e. nz (placed.apart z w lz m e)) (pair_within x y hx g ne z hz).1 (pair_within x y hx g ne w hw).1 in
          bool_same _ _
          (λ e. let t = pair_within x y hx g ne u e in within_pair z w lz m nz u t.0 ((alike (at u)).0 t.1))
          (λ e. let t = pair_within z w lz m nz u e in within_pair x y hx g ne u t.0 ((alike (at u)).1 t.1));
    }

    -- ---- the definition's lines
    module _ (plane : ℕ → ℕ → List ℕ)
        (in_plane : (x y z : ℕ) → holds z (plane x y) ≡ true → InSpan q v add mul sum scale space lead l x y z)
        (plane_holds : (x y z : ℕ) → InSpan q v add mul sum scale space lead l x y z → holds z (plane x y) ≡ true) where
      unfoldable pub every : List (List ℕ)
      every = join_below N (λ j. list_below j (λ i. points_in P (plane (at i) (at j))))

      line_of : (i j : ℕ) → i < j → j < N → IsLineOf N (suc q) pair linear (points_in P (plane (at i) (at j))) i j
      line_of i j h g = record {
        differs = points_differ i j (omega arith) g (λ e. absurd (omega arith)) (plane (at i) (at j)) (in_plane (at i) (at j)) (plane_holds (at i) (at j));
        same = same_points i j (omega arith) g (λ e. absurd (omega arith)) (plane (at i) (at j)) (in_plane (at i) (at j)) (plane_holds (at i) (at j));
      }

      pub each : HoldsEachLine N (suc q) pair linear every
      unfolding every
      each = record {
        lines = recursion_from_All (IsSomeLine N (suc q) pair linear) every (All-join_below (IsSomeLine N (suc q) pair linear) N _ (λ j g. All-from_recursion (IsSomeLine N (suc q) pair linear) _
            (each_below (IsSomeLine N (suc q) pair linear) j (λ i. points_in P (plane (at i) (at j))) (λ i h. (i, j, h, g, line_of i j h g)))));
        found = λ i j h g. (
          points_in P (plane (at i) (at j)),
          among-join_below (points_in P (plane (at i) (at j))) N j (λ j. list_below j (λ i. points_in P (plane (at i) (at j)))) g
              (among-list_below (points_in P (plane (at i) (at j))) j i (λ i. points_in P (plane (at i) (at j))) h refl),
          line_of i j h g,
        );
      }
