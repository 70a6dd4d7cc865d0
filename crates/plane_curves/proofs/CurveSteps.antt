-- How the points of curves are listed, number by number.
use Rattle.std.proofs.Common.{Bool, [], ap, arith, cond, false, inl, inr, sym, true, ℕ, ◌&&◌, ◌++◌, ◌+◌, ◌-◌, ◌<◌, ◌==◌, ◌^◌, ◌∙◌, ◌∷◌, ◌≡◌, ◌≢◌, ◌≤◌}
use Rattle.std.proofs.Math.Nat.{pow-le-pow_left, pow-le-pow_right}
use Rattle.counting.proofs.Booleans.{both, cases_eq, eq-eqb, eqb-true}
use Rattle.std.proofs.lemmas.List.{append-nil, map-append}
use Rattle.std.proofs.lemmas.List.Elements.{filter-append}
use Rattle.std.specs.Prelude.{filter, map}
use Rattle.counting.proofs.Ranges.{join_below-same}
use Rattle.counting.specs.Search.{upward}
use Rattle.counting.specs.Sums.{list_below}
use Rattle.design_base.specs.Fields.{has_field}
use Rattle.design_base.specs.declared.limits.TheConstants.{POINTS_MAX}
use Rattle.field_tables.proofs.Listed.{listed_small, order_above}
use Rattle.spaces.proofs.PointSteps.{points_below-left, points_below-none, points_below-taken}
use Rattle.spaces.specs.Points.{lead, points_below}
use Rattle.plane_curves.proofs.Arcs.{lead_first, on_arc_first}
use Rattle.plane_curves.specs.Curves.{is_on_arc}
use Rattle.plane_curves.specs.Secants.{curve_points, entries}

module _ (q : ℕ) (curve : ℕ → Bool) where
  pub curve_points-none : curve_points q curve 0 ≡ []
  unfolding curve_points
  curve_points-none = ap (λ P. map (entries q) (filter curve P)) (points_below-none q 3)

  kept : (z : ℕ) → lead q 3 z ≡ 1 → curve_points q curve (z + 1) ≡ curve_points q curve z ++ map (entries q) (cond (curve z) (z ∷ []) [])
  unfolding curve_points
  kept z one = ap (λ P. map (entries q) (filter curve P)) (points_below-taken q 3 z one) ∙ ap (map (entries q)) (filter-append curve (points_below q 3 z) (z ∷ [])) ∙ map-append (entries q) _ _

  pub curve_points-taken : (z : ℕ) → lead q 3 z ≡ 1 → curve z ≡ true → curve_points q curve (z + 1) ≡ curve_points q curve z ++ entries q z ∷ []
  curve_points-taken z one on = kept z one ∙ ap (λ b. curve_points q curve z ++ map (entries q) (cond b (z ∷ []) [])) on

  off : (z : ℕ) → lead q 3 z ≡ 1 → curve z ≡ false → curve_points q curve (z + 1) ≡ curve_points q curve z
  off z one none = kept z one ∙ ap (λ b. curve_points q curve z ++ map (entries q) (cond b (z ∷ []) [])) none ∙ append-nil (curve_points q curve z)

  curve_points-left : (z : ℕ) → lead q 3 z ≢ 1 → curve_points q curve (z + 1) ≡ curve_points q curve z
  unfolding curve_points
  curve_points-left z ne = ap (λ P. map (entries q) (filter curve P)) (points_below-left q 3 z ne)

  pub curve_points-off : (z : ℕ) → curve z ≡ false → curve_points q curve (z + 1) ≡ curve_points q curve z
  curve_points-off z none = elim (cases_eq (lead q 3 z) 1) [ inl one ↦ off z one none | inr ne ↦ curve_points-left z ne ]

  pub point-taken : (z : ℕ) → (lead q 3 z == 1 && curve z) ≡ true → curve_points q curve (z + 1) ≡ curve_points q curve z ++ entries q z ∷ []
  point-taken z e = let h = both (lead q 3 z == 1) (curve z) e in curve_points-taken z (eqb-true _ _ h.0) h.1

  pub point-left : (z : ℕ) → (lead q 3 z == 1 && curve z) ≡ false → curve_points q curve (z + 1) ≡ curve_points q curve z
  point-left z e = elim (cases_eq (lead q 3 z) 1) [
    | inl one ↦ off z one (sym (ap (λ b. b && curve z) (eq-eqb (lead q 3 z) 1 one)) ∙ e)
    | inr ne ↦ curve_points-left z ne
  ]

pub arc-taken : (q : ℕ) (add mul : ℕ → ℕ → ℕ) (c bound z : ℕ) → is_on_arc add mul q c bound z ≡ true → curve_points q (is_on_arc add mul q c bound) (z + 1) ≡ curve_points q (is_on_arc add mul q c bound) z ++ entries q z ∷ []
arc-taken q add mul c bound z e = curve_points-taken q (is_on_arc add mul q c bound) z (lead_first q z (on_arc_first add mul q c bound z e)) e

pub cube_fits : (q : ℕ) → has_field q ≡ true → q ^ 3 < 2 ^ 32
cube_fits q listed =
    let small : q ≤ POINTS_MAX = omega (arith, listed_small q listed) in
    let more : q ^ 3 ≤ POINTS_MAX ^ 3 = pow-le-pow_left small 3 in omega (arith, more)

-- the numbers below q
pub upward_all : (q : ℕ) → 0 < q → upward 0 (q - 1) ≡ list_below q (λ x. x)
upward_all q some = ap (λ n. list_below n (λ i. 0 + i)) (let e : q - 1 + 1 - 0 ≡ q = omega arith in e) ∙ join_below-same q _ _ (λ i l. ap (λ x. x ∷ []) (omega arith))

-- powers of 2
pub power_small : (n : ℕ) → n ≤ 14 → 2 ^ n ≤ 2 ^ 14
power_small n h = pow-le-pow_right (let e : 0 < 2 = omega arith in e) h

pub ruleset curve_steps = (append-nil, order_above, cube_fits, curve_points-none, point-taken, point-left, arc-taken, curve_points-off)
