-- The lines of the affine and of the projective geometries over each listed field are designs.
use Rattle.std.proofs.Common.{List, [], ◌∷◌, ◌++◌, ap, arith, length, refl, subst, suc, sym, true, zero, ℕ, ◌+◌, ◌<◌, ◌^◌, ◌∙◌, ◌≡◌, ◌≤◌}
use Rattle.std.proofs.lemmas.Grind.{get_or_default_zero}
use Rattle.std.specs.Prelude.{Contains}
use Rattle.counting.proofs.Ranges.{get_or-list_below, length-list_below}
use Rattle.counting.specs.Sums.{list_below}
use Rattle.design_base.specs.Blocks.{IsBibd}
use Rattle.design_base.specs.Fields.{field_product, field_sum, has_field}
use Rattle.design_base.specs.Rings.{IsField}
use Rattle.field_tables.proofs.Listed.{listed_field, order_above}
use Rattle.spaces.proofs.Bounds.{some_vectors}
use Rattle.spaces.proofs.Geometries.{affine_blocks, affine_design, projective_blocks, projective_design}
use Rattle.spaces.proofs.Leads.{contains_point, is_lead, lead_one, lead_positive, length-points}
use Rattle.spaces.proofs.PointSteps.{places-one, places-push}
use Rattle.spaces.proofs.VectorSpaces.{space}
use Rattle.spaces.proofs.CoefficientSteps.{listed_sum_one, projective-push, slopes-none, slopes-push}
use Rattle.spaces.specs.Lines.{affine_lines, projective_lines}
use Rattle.design_base.specs.Geometries.{point_count}
use Rattle.spaces.specs.Points.{AreNumbers, ArePlaces, IsPlace, lead, points}
use Rattle.spaces.specs.Vectors.{multiple}
use Rattle.spaces.specs.Coefficients.{AreAffine, AreProjective, AreSlopes}

numbers_below : (v : ℕ) → AreNumbers v (list_below v (λ i. i))
numbers_below v = record { count = length-list_below v (λ (i : ℕ). i); each = λ i l. get_or-list_below v (λ i. i) i 0 l }

slopes : (n : ℕ) → (W : List (ℕ × ℕ)) × AreSlopes n W
slopes zero = ([], slopes-none)
slopes (suc n) =
    let less = slopes n in
    (less.0 ++ (1, n) ∷ [], subst (λ m. AreSlopes m (less.0 ++ (1, n) ∷ [])) (let e : n + 1 ≡ suc n = omega arith in e) (slopes-push n less.0 less.1))

module _ (q : ℕ) (listed : has_field q ≡ true) where
  field : IsField q (field_sum q) (field_product q)
  field = listed_field q listed

  negative : ℕ → ℕ
  negative t = (field.ring.negatives t).0

  -- the coefficients (1 - t, t)
  affine_coefficients : List (ℕ × ℕ)
  affine_coefficients = list_below q (λ t. (field_sum q 1 (negative t), t))

  are_affine : AreAffine (field_sum q) q affine_coefficients
  unfolding affine_coefficients negative
  are_affine = record {
    count = length-list_below q (λ t. (field_sum q 1 (negative t), t));
    second = λ t l. ap (λ (w : ℕ × ℕ). w.1) (get_or-list_below q (λ t. (field_sum q 1 (negative t), t)) t (0, 0) l);
    sum_one = λ t l. ap (λ (w : ℕ × ℕ). field_sum q w.0 t) (get_or-list_below q (λ t. (field_sum q 1 (negative t), t)) t (0, 0) l)
        ∙ listed_sum_one q t (negative t) listed (field.ring.negatives t).2;
  }

  pub listed_affine : (d : ℕ) → IsBibd (affine_lines q d) (q ^ d) q 1
  unfolding affine_lines
  listed_affine d =
      let numbers = numbers_below (q ^ d) in
      let vectors = list_below (q ^ d) (λ i. i) in
      subst (λ B. IsBibd B (q ^ d) q 1) (affine_blocks q (field_sum q) (field_product q) field d vectors vectors affine_coefficients numbers numbers are_affine)
      (affine_design q (field_sum q) (field_product q) field d vectors vectors affine_coefficients numbers numbers are_affine)

  -- each vector but 0 has a multiple that is a point
  place_of : (n x : ℕ) → 0 < x → x < q ^ n → (i : ℕ) × IsPlace (field_product q) q n x i
  place_of n x pos l =
      let s = space q (field_sum q) (field_product q) field.ring n in
      let least = (is_lead q (field_sum q) (field_product q) field n).lead_below x in
      let inverse = field.inverses (lead q n x) (lead_positive q (field_sum q) (field_product q) field n x pos l) least in
      let y = multiple (field_product q) q n inverse.0 x in
      let found : Contains (points q n) y = contains_point q n y (s.multiples_below inverse.0 x) (lead_one q (field_sum q) (field_product q) field n x inverse.0 inverse.1 inverse.2) in (
        found.0,
        record {
          factor = inverse.0;
          small = inverse.1;
          within = found.1;
          equal = sym found.2 ∙ get_or_default_zero (points q n) found.0 y found.1;
        },
      )

  places_below : (n v : ℕ) → suc v ≤ q ^ n → (places : List ℕ) × ArePlaces (field_product q) q n (suc v) places
  places_below n zero within = (0 ∷ [], places-one (field_product q) q n)
  places_below n (suc v) within =
      let less = places_below n v (omega arith) in
      let place = place_of n (suc v) (omega arith) within in
      let e : suc v + 1 ≡ suc (suc v) = omega arith in
      (less.0 ++ place.0 ∷ [], subst (λ m. ArePlaces (field_product q) q n m (less.0 ++ place.0 ∷ [])) e (places-push (field_product q) q n (suc v) place.0 less.0 less.1 place.1))

  pub places : (n : ℕ) → (places : List ℕ) × ArePlaces (field_product q) q n (q ^ n) places
  places n = all (q ^ n) refl (some_vectors q n (order_above q listed))
    where
      all : (v : ℕ) → v ≡ q ^ n → 0 < v → (places : List ℕ) × ArePlaces (field_product q) q n (q ^ n) places
      all zero e more = absurd (omega arith)
      all (suc v) e more = let found = places_below n v (omega arith) in (found.0, subst (λ m. ArePlaces (field_product q) q n m found.0) e found.1)

  projective_coefficients : (W : List (ℕ × ℕ)) × AreProjective q W
  projective_coefficients = let w = slopes q in (w.0 ++ (0, 1) ∷ [], projective-push q w.0 w.1)

  pub listed_projective : (d : ℕ) → IsBibd (projective_lines q d) (point_count q d) (q + 1) 1
  unfolding projective_lines
  listed_projective d =
      let p = places (d + 1) in
      let w = projective_coefficients in
      let e : suc q ≡ q + 1 = omega arith in
      subst (λ k. IsBibd (projective_lines q d) (point_count q d) k 1) e
      (subst (λ v. IsBibd (projective_lines q d) v (suc q) 1) (length-points q (order_above q listed) d)
      (subst (λ B. IsBibd B (length (points q (d + 1))) (suc q) 1) (projective_blocks q (field_sum q) (field_product q) field (d + 1) p.0 w.0 p.1 w.1)
      (projective_design q (field_sum q) (field_product q) field (d + 1) p.0 w.0 p.1 w.1)))
