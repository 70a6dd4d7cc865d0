-- The points of a plane at which a Hermitian form is 0: a line holds one of them or p + 1.
use Rattle.std.proofs.Common.{Bool, List, ap, ap₂, arith, cond, get_or, inl, inr, length, refl, suc, sym, true, ℕ, ◌%◌, ◌&&◌, ◌*◌, ◌+◌, ◌/◌, ◌<◌, ◌==◌, ◌^◌, ◌∙◌, ◌≡◌, ◌≢◌}
use Rattle.counting.proofs.Booleans.{bool_same, cases_lt, eq-eqb, eqb-true, ne_eqb}
use Rattle.std.specs.List.{sum_by}
use Rattle.counting.proofs.Counts.{one-true, sum_below-same, sum_below-suc}
use Rattle.counting.proofs.Lists.{one-and}
use Rattle.counting.specs.Sums.{one, sum_below}
use Rattle.design_base.specs.Blocks.{IsBibd, cover, holds}
use Rattle.design_base.specs.Canonical.{canonical}
use Rattle.design_base.specs.Rings.{IsCommutativeRing, IsField}
use Rattle.field_tables.specs.Powers.{power}
use Rattle.counting.proofs.Totals.{sum_by-list_below}
use Rattle.spaces.proofs.Leads.{is_lead, points_apart}
use Rattle.spaces.proofs.Projective as projective
use Rattle.spaces.proofs.Projective.{ArePlaced, AreCoefficients, pair_below, pair_differs, same_points}
use Rattle.spaces.proofs.Space.{IsSpace, zero-scale}
use Rattle.spaces.proofs.Span.{not_zero}
use Rattle.spaces.proofs.VectorSpaces.{IsVectorSpace, combination-multiple, combination_below}
use Rattle.spaces.specs.Lines.{points_in, projective_lines_over, subspace}
use Rattle.spaces.specs.Points.{lead, points}
use Rattle.spaces.specs.Vectors.{combination, multiple, vector_sum}
use Rattle.plane_curves.specs.Curves.{is_power_zero}
use Rattle.plane_curves.specs.Traces.{points_on, trace}
use Rattle.plane_curves.proofs.Hermitian.{IsConjugation, IsIndependent, hermitian, line_zeros, mixed, multiple_zero, multiple_zero-from}
use Rattle.plane_curves.specs.Secants.{entries as entries_of}
use Rattle.plane_curves.specs.declared.vectors.Vector.{Vector}
use Rattle.plane_curves.proofs.Planes.{entries-mix, entries_below, independent as independent_of, no_weights as weights_of}
use Rattle.plane_curves.proofs.Sections.{curve_design, in_plane, plane_holds, point_at, vectors}
use Rattle.design_base.proofs.Points.{holds_filtered, sum_set}

module _ (q : ℕ) (add mul : ℕ → ℕ → ℕ) (field : IsField q add mul) (p : ℕ) (conjugation : IsConjugation q add mul (λ x. power mul x p))
    (kernel : sum_below q (λ w. one (add w (power mul w p) == 0)) ≡ p) where
  abbrev r : IsCommutativeRing q add mul
  r = field.ring

  abbrev sum : ℕ → ℕ → ℕ
  sum = vector_sum add q 3

  abbrev scale : ℕ → ℕ → ℕ
  scale = multiple mul q 3

  abbrev space : IsSpace q (q ^ 3) add mul sum scale
  space = vectors q add mul field 3

  abbrev s : IsVectorSpace q (q ^ 3) add mul sum scale
  s = space.vectors

  abbrev conj : ℕ → ℕ
  conj x = power mul x p

  abbrev curve : ℕ → Bool
  curve = is_power_zero add mul q (p + 1)

  abbrev P : List ℕ
  P = points q 3

  abbrev N : ℕ
  N = length P

  abbrev at : ℕ → ℕ
  at i = get_or P i 0

  positive : 0 < q
  positive = omega (arith, r.one_below)

  abbrev entries : ℕ → Vector
  entries = entries_of q

  abbrev value : Vector → ℕ
  value x = hermitian add mul conj x x

  norm : (x : ℕ) → power mul x (p + 1) ≡ mul x (conj x)
  unfolding power
  norm x = ap (power mul x) (let e : p + 1 ≡ suc p = omega arith in e) ∙ r.products_commute (power mul x p) x

  curve_is : (z : ℕ) → curve z ≡ (value (entries z) == 0)
  unfolding is_power_zero hermitian entries_of
  curve_is z = ap₂ (λ t u. add t u == 0) (norm (z % q)) (ap₂ add (norm (z / q % q)) (norm (z / q / q % q)))

  on_curve : (z : ℕ) → curve z ≡ true → value (entries z) ≡ 0
  on_curve z h = eqb-true _ _ (sym (curve_is z) ∙ h)

  -- multiples
  curve_multiple : (c z : ℕ) → c < q → c ≢ 0 → curve (scale c z) ≡ curve z
  curve_multiple c z l ne =
      curve_is (scale c z) ∙ ap (λ t. value t == 0) (ap entries (sym (combination-multiple q add mul field 3 c z)) ∙ entries-mix q add mul field c z 0 0)
      ∙ bool_same _ _
      (λ h. eq-eqb _ _ (multiple_zero-from q add mul field conj conjugation c (entries z) (entries 0) l (entries_below q add mul field z) ne (eqb-true _ _ h)))
      (λ h. eq-eqb _ _ (multiple_zero q add mul field conj conjugation c (entries z) (entries 0) l (entries_below q add mul field z) (eqb-true _ _ h)))
      ∙ sym (curve_is z)

  abbrev lead_of : ℕ → ℕ
  lead_of = lead q 3

  -- the coefficients of the points of a line: 1 and t, or 0 and 1
  first_coefficient : ℕ → ℕ
  first_coefficient t = cond (t == q) 0 1

  second_coefficient : ℕ → ℕ
  second_coefficient t = cond (t == q) 1 t

  are_coefficients : AreCoefficients q (q ^ 3) add mul sum scale space lead_of (is_lead q add mul field 3) first_coefficient second_coefficient
  unfolding first_coefficient second_coefficient
  are_coefficients = record {
    one = λ t l. ap (λ b. cond b 0 1) (ne_eqb t q (λ e. absurd (omega arith)));
    slope = λ t l. ap (λ b. cond b 1 t) (ne_eqb t q (λ e. absurd (omega arith)));
    last_zero = ap (λ b. cond b 0 1) (eq-eqb q q refl);
    last_one = ap (λ b. cond b 1 q) (eq-eqb q q refl);
  }

  module _ (place : ℕ → ℕ) (placed : ArePlaced q (q ^ 3) add mul sum scale space lead_of (is_lead q add mul field 3) P place) where
    abbrev pair : ℕ → ℕ → List ℕ
    pair = projective.pair q (q ^ 3) add mul sum scale space lead_of (is_lead q add mul field 3) P place placed first_coefficient second_coefficient are_coefficients

    module _ (i j : ℕ) (hi : i < N) (hj : j < N) (ne : i ≢ j) (ci : curve (at i) ≡ true) (cj : curve (at j) ≡ true) where
      abbrev x : ℕ
      x = at i

      abbrev y : ℕ
      y = at j

      apart : x ≢ y
      apart e = ne (points_apart q 3 i j hi hj e)

      no_weights : (m n : ℕ) → m < q → n < q → combination add mul q 3 m x n y ≡ 0 → (m ≡ 0) × (n ≡ 0)
      no_weights = weights_of q add mul field x y (point_at q add mul field 3 i hi) (point_at q add mul field 3 j hj) apart

      independent : IsIndependent q add mul (entries x) (entries y)
      independent = independent_of q add mul field x y (point_at q add mul field 3 i hi) (point_at q add mul field 3 j hj) apart

      mix_of : ℕ → ℕ
      mix_of t = combination add mul q 3 (first_coefficient t) x (second_coefficient t) y

      mix_first : (t : ℕ) → t < q → mix_of t ≡ combination add mul q 3 1 x t y
      unfolding mix_of
      mix_first t l = ap₂ (λ m n. combination add mul q 3 m x n y) (are_coefficients.one t l) (are_coefficients.slope t l)

      mix_last : mix_of q ≡ combination add mul q 3 0 x 1 y
      unfolding mix_of
      mix_last = ap₂ (λ m n. combination add mul q 3 m x n y) are_coefficients.last_zero are_coefficients.last_one

      mix_nonzero : (t : ℕ) → t < suc q → mix_of t ≢ 0
      mix_nonzero t l e = elim (cases_lt t q) [
        | inl m ↦ (let h : ◌≡◌ {A = ℕ} 1 0 = (no_weights 1 t r.one_below m (sym (mix_first t m) ∙ e)).0 in absurd (omega arith))
        | inr m ↦ (let last : t ≡ q = omega arith in
            let h : ◌≡◌ {A = ℕ} 1 0 = (no_weights 0 1 positive r.one_below (sym mix_last ∙ ap mix_of (sym last) ∙ e)).1 in absurd (omega arith))
      ]

      mix_below : (t : ℕ) → mix_of t < q ^ 3
      unfolding mix_of
      mix_below t = combination_below q add mul r 3 (first_coefficient t) x (second_coefficient t) y

      curve_place : (t : ℕ) → t < suc q → curve (at (place (mix_of t))) ≡ curve (mix_of t)
      curve_place t l =
          let c = placed.multiple (mix_of t) (mix_below t) (mix_nonzero t l) in
          let point = placed.points (place (mix_of t)) (placed.small (mix_of t) (mix_below t) (mix_nonzero t l)) in
          ap curve (sym c.2) ∙ curve_multiple c.0 (mix_of t) c.1 (λ z.
          not_zero q (q ^ 3) add mul sum scale space lead_of (is_lead q add mul field 3) (at (place (mix_of t))) point
          (sym c.2 ∙ ap (λ m. scale m (mix_of t)) z ∙ zero-scale q (q ^ 3) add mul sum scale space (mix_of t)))

      others : sum_below q (λ t. one (curve (mix_of t))) ≡ p
      others =
          sum_below-same q _ (λ t. one (value (mixed add mul 1 (entries x) t (entries y)) == 0)) (λ t l. ap one (ap curve (mix_first t l) ∙ curve_is (combination add mul q 3 1 x t y) ∙ ap (λ e. value e == 0) (entries-mix q add mul field 1 x t y)))
          ∙ line_zeros q add mul field conj conjugation (entries x) (entries y) (entries_below q add mul field x) (entries_below q add mul field y) independent (on_curve x ci) (on_curve y cj)
          ∙ kernel

      last : one (curve (mix_of q)) ≡ 1
      unfolding combination
      last = one-true _ (ap curve (mix_last ∙ ap₂ sum (zero-scale q (q ^ 3) add mul sum scale space x) (s.one-scale y (point_at q add mul field 3 j hj).small)
          ∙ s.sums_commute 0 y ∙ s.zero_neutral y (point_at q add mul field 3 j hj).small) ∙ cj)

      on_pair : sum_by (λ u. one (curve (at u))) (pair i j) ≡ p + 1
      unfolding projective.pair projective.mix mix_of combination
      on_pair =
          sum_by-list_below (λ u. one (curve (at u))) (suc q) (λ t. place (mix_of t))
          ∙ sum_below-same (suc q) _ (λ t. one (curve (mix_of t))) (λ t l. ap one (curve_place t l))
          ∙ sum_below-suc q (λ t. one (curve (mix_of t))) ∙ ap₂ (λ m n. m + n) others last

      section : sum_below N (λ u. one (curve (at u) && holds (at u) (subspace add mul q 3 x y))) ≡ p + 1
      unfolding points_in
      section =
          sum_below-same N _ (λ u. one (curve (at u)) * one (holds u (pair i j))) (λ u l.
          one-and (curve (at u)) (holds (at u) (subspace add mul q 3 x y))
          ∙ ap (λ b. one (curve (at u)) * one b) (sym (holds_filtered (λ u. holds (at u) (subspace add mul q 3 x y)) N u l)
          ∙ same_points q (q ^ 3) add mul sum scale space lead_of (is_lead q add mul field 3) P place placed first_coefficient second_coefficient are_coefficients i j hi hj ne (subspace add mul q 3 x y)
          (in_plane q add mul field 3 x y) (plane_holds q add mul field 3 x y) u))
          ∙ sym (sum_set N (λ u. one (curve (at u))) (pair i j)
          (pair_differs q (q ^ 3) add mul sum scale space lead_of (is_lead q add mul field 3) P place placed first_coefficient second_coefficient are_coefficients i j hi hj ne)
          (pair_below q (q ^ 3) add mul sum scale space lead_of (is_lead q add mul field 3) P place placed first_coefficient second_coefficient are_coefficients i j hi hj ne))
          ∙ on_pair

    pub unital_sections : (i j : ℕ) → i < j → j < N → curve (at i) ≡ true → curve (at j) ≡ true → sum_below N (λ u. one (curve (at u) && holds (at u) (subspace add mul q 3 (at i) (at j)))) ≡ p + 1
    unital_sections i j l m ci cj = section i j (omega arith) m (λ e. absurd (omega arith)) ci cj

    pub unital_design : ((x y : ℕ) → x < y → y < N → cover (projective_lines_over add mul q 3) x y ≡ 1) →
        IsBibd (canonical (trace (points_on curve P) (projective_lines_over add mul q 3))) (length (points_on curve P)) (p + 1) 1
    unital_design = curve_design q add mul field 3 curve (p + 1) unital_sections
