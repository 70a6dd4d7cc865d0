-- The designs on curves, from what their constructions need.
use Rattle.std.proofs.Common.{List, ap, arith, false, inl, inr, length, refl, subst, sym, true, ℕ, ◌*◌, ◌+◌, ◌<◌, ◌^◌, ◌∙◌, ◌≡◌, ◌≤◌}
use Rattle.std.proofs.Math.Nat.{mul-le-mul_left, pow-le-pow_left, pow-le-pow_right}
use Rattle.counting.proofs.Booleans.{cases_eq, cases_lt, false≢true}
use Rattle.std.specs.Prelude.{All}
use Rattle.design_base.specs.Canonical.{canonical}
use Rattle.counting.specs.Search.{first_in}
use Rattle.design_base.specs.Fields.{field_product, field_sum, has_field, moduli, modulus_of}
use Rattle.spaces.specs.Least.{least_lines}
use Rattle.plane_curves.specs.Curves.{arc_blocks, is_on_arc, is_power_zero, least_rootless, unital_blocks}
use Rattle.plane_curves.specs.Secants.{IsOver, curve_points, secant}
use Rattle.plane_curves.specs.declared.vectors.Vector.{Vector}
use Rattle.design_base.specs.declared.limits.TheConstants.{POINTS_MAX}
use Rattle.plane_curves.specs.Conditions.{CanBuildArc, CanBuildUnital, arc_size}
use Rattle.plane_curves.specs.Laws.{ArcLaw, UnitalLaw}
use Rattle.plane_curves.proofs.ListedArcs.{arc_is_design, arc_lines, even_field, length-listed_points, listed_points_over}
use Rattle.plane_curves.proofs.ListedUnitals.{length-unital_points, order_known, unital_is_design, unital_lines, unital_points_over}

-- no more points are in bounds, and no field has 36 elements
pub order_few : (q : ℕ) → CanBuildUnital q → q ≤ 5
unfolding modulus_of moduli first_in
order_few q given = elim (cases_lt q 7) [
  | inl l ↦ elim (cases_eq q 6) [
    | inl e ↦ (let none : has_field (6 ^ 2) ≡ false = refl in absurd (false≢true (sym none ∙ subst (λ n. has_field (n ^ 2) ≡ true) e given.listed)))
    | inr other ↦ omega (arith, l, other)
  ]
  | inr l ↦ (let more : 7 ^ 3 ≤ q ^ 3 = pow-le-pow_left l 3 in absurd (omega (arith, more, given.points)))
]

pub unitals : UnitalLaw
unitals q given = unital_is_design q given.order (order_few q given)

arc_count : (r s : ℕ) → CanBuildArc r s → arc_size r s + 2 ^ s ≡ 2 ^ (r + s) + 2 ^ r
arc_count r s given =
    let more : 2 ^ s ≤ 2 ^ (r + s) = pow-le-pow_right (let e : 0 < 2 = omega arith in e) (omega arith) in
    omega (arith, more)

pub arcs : ArcLaw
arcs r s given = arc_is_design r s given.two_points given.smaller given.listed (arc_size r s) (arc_count r s given)

-- ---- from the points that were listed over a field to the lines of two of them
abbrev lines_of : ℕ → List Vector → List (List ℕ)
lines_of f V = canonical (least_lines (secant (field_sum f) (field_product f) V) (length V))

module _ (q : ℕ) (given : CanBuildUnital q) where
  abbrev pub power_points_over : ℕ → List Vector
  power_points_over f = curve_points f (is_power_zero (field_sum f) (field_product f) f (q + 1)) (f ^ 3)

  pub square_listed : has_field (q * q) ≡ true
  square_listed = (order_known q given.order (order_few q given)).0

  pub square_small : q * q < 2 ^ 16
  square_small =
      let small : q ≤ 5 = order_few q given in
      let most : q * q ≤ q * 5 = mul-le-mul_left q small in
      omega (arith, small, most)

  module _ (f : ℕ) (V : List Vector) (e : f ≡ q * q) (h : V ≡ power_points_over f) where
    at_square : V ≡ power_points_over (q * q)
    at_square = h ∙ ap power_points_over e

    pub unital_over : All (IsOver f) V
    unital_over = subst (λ f. All (IsOver f) V) (sym e) (subst (All (IsOver (q * q))) (sym at_square) (unital_points_over q given.order (order_few q given)))

    pub unital_few : length V ≤ POINTS_MAX
    unital_few = omega (arith, ap length at_square, length-unital_points q given.order (order_few q given), given.points)

    pub unital_listed : lines_of f V ≡ canonical (unital_blocks q)
    unital_listed = ap (λ f. lines_of f V) e ∙ ap (lines_of (q * q)) at_square ∙ unital_lines q given.order (order_few q given)

module _ (r s : ℕ) (given : CanBuildArc r s) where
  abbrev pub arc_points_over : ℕ → List Vector
  arc_points_over f = curve_points f (is_on_arc (field_sum f) (field_product f) f (least_rootless (field_sum f) (field_product f) f) (2 ^ r)) (f ^ 3)

  pub power_listed : has_field (2 ^ s) ≡ true
  power_listed = (even_field s (omega (arith, given.two_points, given.smaller)) given.listed).0

  module _ (f : ℕ) (V : List Vector) (e : f ≡ 2 ^ s) (h : V ≡ arc_points_over f) where
    at_power : V ≡ arc_points_over (2 ^ s)
    at_power = h ∙ ap arc_points_over e

    pub arc_over : All (IsOver f) V
    arc_over = subst (λ f. All (IsOver f) V) (sym e) (subst (All (IsOver (2 ^ s))) (sym at_power) (listed_points_over r s given.two_points given.smaller given.listed))

    pub arc_few : length V ≤ POINTS_MAX
    arc_few = omega (arith, ap length at_power, length-listed_points r s given.two_points given.smaller given.listed (arc_size r s) (arc_count r s given), given.points)

    pub arc_listed : lines_of f V ≡ canonical (arc_blocks r s)
    arc_listed = ap (λ f. lines_of f V) e ∙ ap (lines_of (2 ^ s)) at_power ∙ arc_lines r s given.two_points given.smaller given.listed
