-- The unitals over the fields of 4, 9, 16 and 25 elements are designs: the checker computes that the q-th powers are a conjugation, how
-- many elements have the trace 0, and how many points there are.
use Rattle.std.proofs.Common.{Bool, None, Option, Some, ap, arith, false, get_or, length, refl, subst, suc, sym, true, zero, ℕ, ◌*◌, ◌+◌, ◌-◌, ◌<◌, ◌^◌, ◌∙◌, ◌≡◌, ◌≤◌}
use Rattle.std.proofs.Math.Nat.{pos_of_ne-zero}
use Rattle.counting.proofs.Booleans.{both, eqb-true}
use Rattle.std.specs.Prelude.{All, List, is_some, ◌&&◌, ◌==◌}
use Rattle.counting.proofs.Counts.{sum_below-same}
use Rattle.counting.proofs.OnePlace.{filter_sum}
use Rattle.counting.specs.Search.{each_passes, first_in}
use Rattle.counting.specs.Sums.{join_below, list_below, one, sum_below}
use Rattle.design_base.specs.Blocks.{IsBibd}
use Rattle.design_base.specs.Canonical.{canonical}
use Rattle.design_base.specs.Fields.{Modulus, field_product, field_sum, has_field, product_in, modulus_of, moduli, sum_in}
use Rattle.design_base.specs.Rings.{IsField}
use Rattle.field_tables.proofs.Search.{passes_below}
use Rattle.counting.proofs.Totals.{length_filtered, sum_by-list_below}
use Rattle.field_tables.specs.Powers.{power}
use Rattle.field_tables.proofs.AnyField.{products_left}
use Rattle.field_tables.proofs.Listed.{listed_field, modulus_known, order_above}
use Rattle.spaces.proofs.Leads.{is_lead, length-points, points_apart}
use Rattle.spaces.proofs.Projective.{ArePlaced}
use Rattle.spaces.proofs.Space.{IsSpace}
use Rattle.spaces.specs.Lines.{projective_lines, projective_lines_over}
use Rattle.spaces.specs.Points.{lead, points, points_below}
use Rattle.spaces.specs.Vectors.{multiple, vector_sum}
use Rattle.plane_curves.specs.Curves.{is_power_zero, unital_blocks}
use Rattle.plane_curves.specs.Traces.{points_on, trace}
use Rattle.plane_curves.proofs.Hermitian.{IsConjugation}
use Rattle.spaces.proofs.LineDesigns.{listed_projective, places}
use Rattle.plane_curves.proofs.Sections.{point_at, sum_places, vectors}
use Rattle.plane_curves.proofs.Unitals.{unital_design, unital_sections}
use Rattle.plane_curves.proofs.CurveLists.{are_over, curve_lines, length-curve_points}
use Rattle.plane_curves.specs.Secants.{IsOver, curve_points, secant}
use Rattle.plane_curves.specs.declared.vectors.Vector.{Vector}
use Rattle.spaces.specs.Least.{least_lines}

abbrev conjugates : (ℕ → ℕ → ℕ) → (ℕ → ℕ → ℕ) → ℕ → ℕ → Bool
conjugates add mul q p =
    each_passes (λ x. power mul (power mul x p) p == x && each_passes (λ y. power mul (add x y) p == add (power mul x p) (power mul y p)) (list_below q (λ y. y))) (list_below q (λ x. x))

abbrev kernel_size : (ℕ → ℕ → ℕ) → (ℕ → ℕ → ℕ) → ℕ → ℕ → ℕ
kernel_size add mul q p = sum_below q (λ w. one (add w (power mul w p) == 0))

either : (b c : Bool) → one b * one c ≡ one (elim b [ true ↦ c | false ↦ false ])
unfolding one
either true c = omega arith
either false c = omega arith

-- a point at which the form is 0
abbrev is_point : (ℕ → ℕ → ℕ) → (ℕ → ℕ → ℕ) → ℕ → ℕ → ℕ → Bool
is_point add mul q p z = elim (lead q 3 z == 1) [ true ↦ is_power_zero add mul q (p + 1) z | false ↦ false ]

abbrev count_points : (ℕ → ℕ → ℕ) → (ℕ → ℕ → ℕ) → ℕ → ℕ → ℕ
count_points add mul q p = sum_below (q ^ 3) (λ z. one (is_point add mul q p z))

abbrev is_hermitian : (ℕ → ℕ → ℕ) → (ℕ → ℕ → ℕ) → ℕ → Bool
is_hermitian add mul p = let q : ℕ = p * p in (conjugates add mul q p && (kernel_size add mul q p == p && count_points add mul q p == p ^ 3 + 1))

abbrev order_passes : ℕ → Bool
order_passes p = elim (modulus_of (p * p)) [ None ↦ false | Some f ↦ is_hermitian (sum_in (Some f)) (product_in (Some f)) p ]

orders_pass : each_passes order_passes (list_below 4 (λ i. 2 + i)) ≡ true
unfolding each_passes first_in join_below modulus_of moduli power sum_below one lead is_power_zero
orders_pass = refl

-- ---- powers of an element, and of a product
module _ (q : ℕ) (add mul : ℕ → ℕ → ℕ) (field : IsField q add mul) where
  power_small : (x n : ℕ) → power mul x n < q
  unfolding power
  power_small x zero = field.ring.one_below
  power_small x (suc n) = field.ring.products_below (power mul x n) x

  power-mul : (x y n : ℕ) → power mul (mul x y) n ≡ mul (power mul x n) (power mul y n)
  unfolding power
  power-mul x y zero = sym (field.ring.one_neutral 1 field.ring.one_below)
  power-mul x y (suc n) =
      ap (λ t. mul t (mul x y)) (power-mul x y n)
      ∙ field.ring.products_associate (power mul x n) (power mul y n) (mul x y)
      ∙ ap (mul (power mul x n)) (products_left q add mul field.ring (power mul y n) x y)
      ∙ sym (field.ring.products_associate (power mul x n) x (mul (power mul y n) y))

  conjugation : (p : ℕ) → conjugates add mul q p ≡ true → IsConjugation q add mul (λ x. power mul x p)
  conjugation p h =
      let at : (x : ℕ) → x < q → (power mul (power mul x p) p == x && each_passes (λ y. power mul (add x y) p == add (power mul x p) (power mul y p)) (list_below q (λ y. y))) ≡ true =
      passes_below (λ x. power mul (power mul x p) p == x && each_passes (λ y. power mul (add x y) p == add (power mul x p) (power mul y p)) (list_below q (λ y. y))) q (λ x. x) h in
      record {
        below = λ x. power_small x p;
        sums = λ x y lx ly. eqb-true _ _ (passes_below (λ y. power mul (add x y) p == add (power mul x p) (power mul y p)) q (λ y. y) (both _ _ (at x lx)).1 y ly);
        products = λ x y. power-mul x y p;
        twice = λ x lx. eqb-true _ _ (both _ _ (at x lx)).0;
      }

points_counted : (q p : ℕ) (add mul : ℕ → ℕ → ℕ) → length (points_on (is_power_zero add mul q (p + 1)) (points q 3)) ≡ count_points add mul q p
unfolding points_on points points_below
points_counted q p add mul =
    length_filtered (λ i. is_power_zero add mul q (p + 1) (get_or (points q 3) i 0)) (length (points q 3))
    ∙ sum_places (λ z. one (is_power_zero add mul q (p + 1) z)) (points q 3)
    ∙ filter_sum (λ z. lead q 3 z == 1) (λ z. one (is_power_zero add mul q (p + 1) z)) (list_below (q ^ 3) (λ z. z))
    ∙ sum_by-list_below (λ z. one (lead q 3 z == 1) * one (is_power_zero add mul q (p + 1) z)) (q ^ 3) (λ z. z)
    ∙ sum_below-same (q ^ 3) _ _ (λ z l. either (lead q 3 z == 1) (is_power_zero add mul q (p + 1) z))

hermitian_field : (p : ℕ) (f : Modulus) → modulus_of (p * p) ≡ Some f → is_hermitian (sum_in (Some f)) (product_in (Some f)) p ≡ is_hermitian (field_sum (p * p)) (field_product (p * p)) p
hermitian_field p f found =
    let known = modulus_known (p * p) f found in
    ap (λ add. is_hermitian add (product_in (Some f)) p) (sym known.sums) ∙ ap (λ mul. is_hermitian (field_sum (p * p)) mul p) (sym known.products)

pub order_known : (p : ℕ) → 2 ≤ p → p ≤ 5 → (has_field (p * p) ≡ true) × (is_hermitian (field_sum (p * p)) (field_product (p * p)) p ≡ true)
order_known p l m = by (modulus_of (p * p)) refl passes
  where
    passes : order_passes p ≡ true
    passes = subst (λ t. order_passes t ≡ true) (let e : 2 + (p - 2) ≡ p = omega arith in e) (passes_below order_passes 4 (λ i. 2 + i) orders_pass (p - 2) (omega arith))

    by : (o : Option Modulus) → modulus_of (p * p) ≡ o → elim o [ None ↦ false | Some f ↦ is_hermitian (sum_in (Some f)) (product_in (Some f)) p ] ≡ true →
        (has_field (p * p) ≡ true) × (is_hermitian (field_sum (p * p)) (field_product (p * p)) p ≡ true)
    by None found h = absurd (let f : false ≡ true = h in cc)
    by (Some f) found h = (ap is_some found, sym (hermitian_field p f found) ∙ h)

module _ (p : ℕ) (two : 2 ≤ p) (few : p ≤ 5) where
  q : ℕ
  q = p * p

  abbrev add : ℕ → ℕ → ℕ
  add = field_sum q

  abbrev mul : ℕ → ℕ → ℕ
  mul = field_product q

  listed : has_field q ≡ true
  unfolding q
  listed = (order_known p two few).0

  field : IsField q add mul
  field = listed_field q listed

  facts : (conjugates add mul q p ≡ true) × (kernel_size add mul q p ≡ p) × (count_points add mul q p ≡ p ^ 3 + 1)
  unfolding q
  facts =
      let a = both (conjugates add mul q p) (kernel_size add mul q p == p && count_points add mul q p == p ^ 3 + 1) (order_known p two few).1 in
      let b = both (kernel_size add mul q p == p) (count_points add mul q p == p ^ 3 + 1) a.1 in
      (a.0, eqb-true _ _ b.0, eqb-true _ _ b.1)

  vectors3 : IsSpace q (q ^ 3) add mul (vector_sum add q 3) (multiple mul q 3)
  vectors3 = vectors q add mul field 3

  placed : ArePlaced q (q ^ 3) add mul (vector_sum add q 3) (multiple mul q 3) (vectors q add mul field 3) (lead q 3) (is_lead q add mul field 3) (points q 3) (λ z. get_or (places q listed 3).0 z 0)
  placed =
      let finds = (places q listed 3).1 in
      record {
        points = λ i h. point_at q add mul field 3 i h;
        apart = points_apart q 3;
        small = λ z h ne. (finds.each z (pos_of_ne-zero ne) h).within;
        multiple = λ z h ne. let w = finds.each z (pos_of_ne-zero ne) h in (w.factor, w.small, w.equal);
      }

  abbrev curve : ℕ → Bool
  curve = is_power_zero add mul q (p + 1)

  design : IsBibd (canonical (trace (points_on curve (points q 3)) (projective_lines_over add mul q 3))) (length (points_on curve (points q 3))) (p + 1) 1
  unfolding projective_lines q
  design = unital_design q add mul field p (conjugation q add mul field p facts.0) facts.1 (λ z. get_or (places q listed 3).0 z 0) placed
      (λ x y l m. (listed_projective q listed 2).pairs x y l (subst (λ n. y < n) (length-points q (order_above q listed) 2) m))

  pub unital_is_design : IsBibd (canonical (unital_blocks p)) (p ^ 3 + 1) (p + 1) 1
  unfolding unital_blocks projective_lines q
  unital_is_design = subst (λ n. IsBibd (canonical (unital_blocks p)) n (p + 1) 1) (points_counted q p add mul ∙ facts.2) design

  -- the points of the curve, and what lists the lines of two of them
  abbrev pub unital_points : List Vector
  unital_points = curve_points (p * p) (is_power_zero (field_sum (p * p)) (field_product (p * p)) (p * p) (p + 1)) ((p * p) ^ 3)

  pub length-unital_points : length unital_points ≡ p ^ 3 + 1
  unfolding q
  length-unital_points = length-curve_points q add mul field curve ∙ points_counted q p add mul ∙ facts.2

  pub unital_points_over : All (IsOver (p * p)) unital_points
  unfolding q
  unital_points_over = are_over q add mul field curve

  pub unital_lines : canonical (least_lines (secant (field_sum (p * p)) (field_product (p * p)) unital_points) (length unital_points)) ≡ canonical (unital_blocks p)
  unfolding unital_blocks projective_lines q
  unital_lines = curve_lines q add mul field curve (p + 1)
      (unital_sections q add mul field p (conjugation q add mul field p facts.0) facts.1 (λ z. get_or (places q listed 3).0 z 0) placed) design
