-- The arcs over the fields of 4 to 128 elements are designs: the checker computes sums of small numbers, and the values of
-- x ^ 2 + x + c.
use Rattle.std.proofs.Common.{Bool, None, Option, Some, ap, arith, false, length, refl, subst, sym, true, ℕ, ◌*◌, ◌+◌, ◌-◌, ◌<◌, ◌^◌, ◌∙◌, ◌≡◌, ◌≢◌, ◌≤◌}
use Rattle.std.proofs.Math.Nat.{one-le-pow, pow-le-pow_right}
use Rattle.std.proofs.lemmas.Nat.{pow-add}
use Rattle.counting.proofs.Booleans.{both, eq-eqb, eqb-true, false≢true, ltb-true}
use Rattle.std.specs.Prelude.{All, List, is_some, nat_lt, not, ◌&&◌, ◌==◌}
use Rattle.counting.specs.Search.{each_passes, first_in}
use Rattle.counting.specs.Sums.{join_below, list_below}
use Rattle.design_base.specs.Blocks.{IsBibd, cover}
use Rattle.design_base.specs.Canonical.{canonical}
use Rattle.design_base.specs.Fields.{Modulus, field_product, field_sum, has_field, product_in, modulus_of, moduli, sum_in}
use Rattle.field_tables.proofs.Listed.{listed_field, modulus_known, order_above}
use Rattle.field_tables.proofs.Search.{passes_below}
use Rattle.spaces.proofs.Leads.{length-points}
use Rattle.spaces.specs.Lines.{projective_lines, projective_lines_over}
use Rattle.spaces.specs.Points.{points}
use Rattle.plane_curves.specs.Curves.{arc_blocks, form_blocks, is_on_arc, is_rootless, least_rootless}
use Rattle.plane_curves.specs.Traces.{points_on, trace}
use Rattle.plane_curves.proofs.Arcs.{arc_design, arc_points, sections}
use Rattle.plane_curves.proofs.CurveLists.{are_over, curve_lines, length-curve_points}
use Rattle.plane_curves.specs.Secants.{IsOver, curve_points, secant}
use Rattle.plane_curves.specs.declared.vectors.Vector.{Vector}
use Rattle.spaces.specs.Least.{least_lines}
use Rattle.design_base.specs.Rings.{IsField}
use Rattle.spaces.proofs.LineDesigns.{listed_projective}

-- the sums of two numbers below M are below M
abbrev is_closed : (ℕ → ℕ → ℕ) → ℕ → Bool
is_closed add M = each_passes (λ x. each_passes (λ y. nat_lt (add x y) M) (list_below M (λ y. y))) (list_below M (λ x. x))

-- 1 + 1 is 0, and x ^ 2 + x + c has no root
abbrev is_even : (ℕ → ℕ → ℕ) → (ℕ → ℕ → ℕ) → ℕ → Bool
is_even add mul q = let c : ℕ = least_rootless add mul q in (add 1 1 == 0 && (nat_lt c q && is_rootless add mul q c))

abbrev is_ready : (ℕ → ℕ → ℕ) → (ℕ → ℕ → ℕ) → ℕ → Bool
is_ready add mul s = is_even add mul (2 ^ s) && each_passes (λ r. is_closed add (2 ^ r)) (list_below s (λ r. r))

abbrev power_passes : ℕ → Bool
power_passes s = elim (modulus_of (2 ^ s)) [ None ↦ false | Some f ↦ is_ready (sum_in (Some f)) (product_in (Some f)) s ]

powers_pass : each_passes power_passes (list_below 6 (λ i. 2 + i)) ≡ true
unfolding each_passes first_in join_below modulus_of moduli is_rootless least_rootless
powers_pass = refl

ready_field : (s : ℕ) (f : Modulus) → modulus_of (2 ^ s) ≡ Some f → is_ready (sum_in (Some f)) (product_in (Some f)) s ≡ is_ready (field_sum (2 ^ s)) (field_product (2 ^ s)) s
ready_field s f found =
    let known = modulus_known (2 ^ s) f found in
    ap (λ add. is_ready add (product_in (Some f)) s) (sym known.sums) ∙ ap (λ mul. is_ready (field_sum (2 ^ s)) mul s) (sym known.products)

pub even_field : (s : ℕ) → 2 ≤ s → s ≤ 7 → (has_field (2 ^ s) ≡ true) × (is_ready (field_sum (2 ^ s)) (field_product (2 ^ s)) s ≡ true)
even_field s l m = by (modulus_of (2 ^ s)) refl passes
  where
    passes : power_passes s ≡ true
    passes = subst (λ t. power_passes t ≡ true) (let e : 2 + (s - 2) ≡ s = omega arith in e) (passes_below power_passes 6 (λ i. 2 + i) powers_pass (s - 2) (omega arith))

    by : (o : Option Modulus) → modulus_of (2 ^ s) ≡ o → elim o [ None ↦ false | Some f ↦ is_ready (sum_in (Some f)) (product_in (Some f)) s ] ≡ true →
        (has_field (2 ^ s) ≡ true) × (is_ready (field_sum (2 ^ s)) (field_product (2 ^ s)) s ≡ true)
    by None found h = absurd (let f : false ≡ true = h in cc)
    by (Some f) found h = (ap is_some found, sym (ready_field s f found) ∙ h)

total_is : (M q p v : ℕ) → 1 ≤ M → p ≡ M * q → v + q ≡ p + M → M + q * (M - 1) ≡ v
total_is M q p v some e f = let next : M ≡ M - 1 + 1 = omega arith in omega (arith, e, f, ap (λ t. t * q) next)

module _ (r s : ℕ) (some : 1 ≤ r) (less : r < s) (few : s ≤ 7) where
  q : ℕ
  q = 2 ^ s

  M : ℕ
  M = 2 ^ r

  add : ℕ → ℕ → ℕ
  add = field_sum q

  mul : ℕ → ℕ → ℕ
  mul = field_product q

  c : ℕ
  c = least_rootless add mul q

  listed : has_field q ≡ true
  unfolding q
  listed = (even_field s (omega arith) few).0

  parts : (is_even add mul q ≡ true) × (each_passes (λ r. is_closed add (2 ^ r)) (list_below s (λ r. r)) ≡ true)
  unfolding add mul q
  parts = both (is_even (field_sum (2 ^ s)) (field_product (2 ^ s)) (2 ^ s)) _ (even_field s (omega arith) few).1

  facts : (add 1 1 ≡ 0) × (c < q) × (is_rootless add mul q c ≡ true)
  unfolding c
  facts =
      let a = both (add 1 1 == 0) (nat_lt (least_rootless add mul q) q && is_rootless add mul q (least_rootless add mul q)) parts.0 in
      let b = both (nat_lt (least_rootless add mul q) q) (is_rootless add mul q (least_rootless add mul q)) a.1 in
      (eqb-true (add 1 1) 0 a.0, ltb-true (least_rootless add mul q) q b.0, b.1)

  closed : (x y : ℕ) → x < M → y < M → add x y < M
  unfolding M
  closed x y lx ly =
      ltb-true (add x y) (2 ^ r) (passes_below (λ y. nat_lt (add x y) (2 ^ r)) (2 ^ r) (λ y. y)
      (passes_below (λ x. each_passes (λ y. nat_lt (add x y) (2 ^ r)) (list_below (2 ^ r) (λ y. y))) (2 ^ r) (λ x. x)
      (passes_below (λ r. is_closed add (2 ^ r)) s (λ r. r) parts.1 r less) x lx) y ly)

  no_root : (x : ℕ) → x < q → add (mul x x) (add x c) ≢ 0
  unfolding is_rootless
  no_root x l e = false≢true (sym (ap not (eq-eqb (add (mul x x) (add x c)) 0 e)) ∙ passes_below (λ x. not (add (mul x x) (add x c) == 0)) q (λ x. x) facts.2 x l)

  small : M ≤ q
  unfolding M q
  small = pow-le-pow_right (let e : 0 < 2 = omega arith in e) (omega arith)

  field : IsField q add mul
  unfolding add mul
  field = listed_field q listed

  abbrev curve : ℕ → Bool
  curve = is_on_arc add mul q c M

  one_line : (x y : ℕ) → x < y → y < length (points q 3) → cover (projective_lines_over add mul q 3) x y ≡ 1
  unfolding projective_lines add mul
  one_line x y l m = (listed_projective q listed 2).pairs x y l (subst (λ n. y < n) (length-points q (order_above q listed) 2) m)

  design : IsBibd (canonical (trace (points_on curve (points q 3)) (projective_lines_over add mul q 3))) (length (points_on curve (points q 3))) M 1
  design = arc_design q add mul field facts.0 c M small closed facts.1 no_root one_line

  count : (v : ℕ) → v + 2 ^ s ≡ 2 ^ (r + s) + 2 ^ r → length (points_on curve (points q 3)) ≡ v
  unfolding q M
  count v e = arc_points q add mul field facts.0 c M small closed facts.1 no_root (one-le-pow r 2 (omega arith)) ∙ total_is (2 ^ r) (2 ^ s) (2 ^ (r + s)) v (one-le-pow r 2 (let e : 0 < 2 = omega arith in e)) (pow-add 2 r s) e

  pub arc_is_design : (v : ℕ) → v + 2 ^ s ≡ 2 ^ (r + s) + 2 ^ r → IsBibd (canonical (arc_blocks r s)) v (2 ^ r) 1
  unfolding form_blocks projective_lines q M add mul c
  arc_is_design v e = subst (λ n. IsBibd (canonical (arc_blocks r s)) n M 1) (count v e) design

  -- the points of the arc, and what lists the lines of two of them
  abbrev pub listed_points : List Vector
  listed_points = curve_points (2 ^ s) (is_on_arc (field_sum (2 ^ s)) (field_product (2 ^ s)) (2 ^ s) (least_rootless (field_sum (2 ^ s)) (field_product (2 ^ s)) (2 ^ s)) (2 ^ r)) ((2 ^ s) ^ 3)

  pub length-listed_points : (v : ℕ) → v + 2 ^ s ≡ 2 ^ (r + s) + 2 ^ r → length listed_points ≡ v
  unfolding q M add mul c
  length-listed_points v e = length-curve_points q add mul field curve ∙ count v e

  pub listed_points_over : All (IsOver (2 ^ s)) listed_points
  unfolding q M add mul c
  listed_points_over = are_over q add mul field curve

  pub arc_lines : canonical (least_lines (secant (field_sum (2 ^ s)) (field_product (2 ^ s)) listed_points) (length listed_points)) ≡ canonical (arc_blocks r s)
  unfolding form_blocks projective_lines q M add mul c
  arc_lines = curve_lines q add mul field curve M (sections q add mul field facts.0 c M small closed facts.1 no_root) design
