-- The designs on curves meet their questions, so that their lists need no check.
use Rattle.std.proofs.Common.{Bool, List, ap, arith, false, refl, sym, true, ℕ, ◌&&◌, ◌+◌, ◌-◌, ◌<◌, ◌==◌, ◌^◌, ◌∙◌, ◌≡◌, ◌≤◌}
use Rattle.rule_terms.proofs.Tests.{five_tests, six_tests}
use Rattle.counting.proofs.Booleans.{both, eqb-true, leb-true, ltb-true}
use Rattle.std.specs.Prelude.{nat_lt}
use Rattle.counting.specs.Search.{◌<=◌}
use Rattle.design_base.specs.Blocks.{IsBibd}
use Rattle.design_base.specs.Canonical.{canonical}
use Rattle.design_base.specs.Fields.{has_field}
use Rattle.design_base.specs.declared.limits.TheConstants.{POINTS_MAX}
use Rattle.design_base.specs.declared.query.Query.TheVariants.{Bibd}
use Rattle.design_checks.proofs.Meeting.{passes_meets}
use Rattle.design_checks.specs.Findings.{passes_check}
use Rattle.plane_curves.proofs.CurveDesigns.{arcs, unitals}
use Rattle.plane_curves.proofs.ListedArcs.{even_field}
use Rattle.plane_curves.specs.Conditions.{arc_size}
use Rattle.plane_curves.specs.Curves.{arc_blocks, unital_blocks}

-- a test more that holds where the others do
also : (a b : Bool) → (a ≡ true → b ≡ true) → a ≡ (a && b)
also true b h = sym (h refl)
also false b h = refl

bibd_passes : (v w k m l : ℕ) (B : List (List ℕ)) → v ≡ w → k ≡ m → l ≡ 1 → IsBibd (canonical B) w m 1 → passes_check (Bibd v k l) B ≡ true
bibd_passes v w k m l B points block once design =
    ap (λ v. passes_check (Bibd v k l) B) points
    ∙ ap (λ k. passes_check (Bibd w k l) B) block
    ∙ ap (λ l. passes_check (Bibd w m l) B) once
    ∙ (passes_meets (Bibd w m 1) B).1 design

-- what is asked of the numbers of a unital
record IsUnitalSize (v k l q : ℕ) : Type 0 where
  pub block : k ≡ q + 1
  pub once : l ≡ 1
  pub points : v ≡ q ^ 3 + 1
  pub order : 2 ≤ q
  pub listed : has_field (q ^ 2) ≡ true

unital_size : (v k l q : ℕ) → (k == q + 1 && l == 1 && v == q ^ 3 + 1 && 2 <= q && has_field (q ^ 2)) ≡ true → IsUnitalSize v k l q
unital_size v k l q e =
    let tests = five_tests e in
    record { block = eqb-true _ _ tests.0; once = eqb-true _ _ tests.1; points = eqb-true _ _ tests.2; order = leb-true _ _ tests.3; listed = tests.4 }

unital_passes : (v k l q : ℕ) → v ≤ POINTS_MAX → IsUnitalSize v k l q → passes_check (Bibd v k l) (unital_blocks q) ≡ true
unital_passes v k l q few h =
    bibd_passes v (q ^ 3 + 1) k (q + 1) l (unital_blocks q) h.points h.block h.once (unitals q (record { order = h.order; listed = h.listed; points = omega (arith, few, h.points) }))

pub unital_meets : (v k l q : ℕ) → v ≤ POINTS_MAX →
    (k == q + 1 && l == 1 && v == q ^ 3 + 1 && 2 <= q && has_field (q ^ 2)) ≡ (k == q + 1 && l == 1 && v == q ^ 3 + 1 && 2 <= q && has_field (q ^ 2) && passes_check (Bibd v k l) (unital_blocks q))
unital_meets v k l q few = also (k == q + 1 && l == 1 && v == q ^ 3 + 1 && 2 <= q && has_field (q ^ 2)) (passes_check (Bibd v k l) (unital_blocks q)) (λ e. unital_passes v k l q few (unital_size v k l q e))

-- what is asked of the numbers of an arc
record IsArcSize (v k l r s : ℕ) : Type 0 where
  pub block : k ≡ 2 ^ r
  pub once : l ≡ 1
  pub points : v ≡ arc_size r s
  pub two : 1 ≤ r
  pub smaller : r < s
  pub listed : s ≤ 7

arc_numbers : (v k l r s : ℕ) → (k == 2 ^ r && l == 1 && v == arc_size r s && 1 <= r && nat_lt r s && s <= 7) ≡ true → IsArcSize v k l r s
arc_numbers v k l r s e =
    let tests = six_tests e in
    record {
      block = eqb-true _ _ tests.0;
      once = eqb-true _ _ tests.1;
      points = eqb-true _ _ tests.2;
      two = leb-true _ _ tests.3;
      smaller = ltb-true _ _ tests.4;
      listed = leb-true _ _ tests.5;
    }

arc_listed : (v k l r s : ℕ) → IsArcSize v k l r s → has_field (2 ^ s) ≡ true
arc_listed v k l r s h = (even_field s (omega (arith, h.two, h.smaller)) h.listed).0

arc_passes : (v k l r s : ℕ) → v ≤ POINTS_MAX → IsArcSize v k l r s → passes_check (Bibd v k l) (arc_blocks r s) ≡ true
arc_passes v k l r s few h =
    bibd_passes v (arc_size r s) k (2 ^ r) l (arc_blocks r s) h.points h.block h.once (arcs r s (record { two_points = h.two; smaller = h.smaller; listed = h.listed; points = omega (arith, few, h.points) }))

pub arc_meets : (v k l r s : ℕ) → v ≤ POINTS_MAX →
    (k == 2 ^ r && l == 1 && v == arc_size r s && 1 <= r && nat_lt r s && s <= 7) ≡ (k == 2 ^ r && l == 1 && v == arc_size r s && 1 <= r && nat_lt r s && s <= 7 && has_field (2 ^ s) && passes_check (Bibd v k l) (arc_blocks r s))
arc_meets v k l r s few =
    also (k == 2 ^ r && l == 1 && v == arc_size r s && 1 <= r && nat_lt r s && s <= 7) (has_field (2 ^ s)) (λ e. arc_listed v k l r s (arc_numbers v k l r s e))
    ∙ also (k == 2 ^ r && l == 1 && v == arc_size r s && 1 <= r && nat_lt r s && s <= 7 && has_field (2 ^ s)) (passes_check (Bibd v k l) (arc_blocks r s)) (λ e. arc_passes v k l r s few (arc_numbers v k l r s (both _ _ e).0))
