-- A step of a rule of difference families meets its question exactly where the closed form says so.
use Rattle.std.proofs.Common.{arith, false, length, subst, sym, true, ℕ, ◌%◌, ◌*◌, ◌+◌, ◌-◌, ◌/◌, ◌≡◌, ◌≤◌}
use Rattle.counting.proofs.Booleans.{and_from, bool_same, both, eqb-true, leb-true}
use Rattle.std.proofs.lemmas.List.Elements.{All-from_recursion}
use Rattle.std.specs.Prelude.{◌↔◌, nat_le, ◌&&◌, ◌==◌}
use Rattle.counting.specs.Division.{divides}
use Rattle.counting.specs.Search.{is_among, ◌<=◌}
use Rattle.design_base.proofs.Same.{group_same}
use Rattle.design_base.specs.Blocks.{IsDf}
use Rattle.design_base.specs.Canonical.{canonical}
use Rattle.design_base.specs.Fields.{field_sum, has_field}
use Rattle.design_base.specs.Limits.{in_bounds, is_listed, within}
use Rattle.design_base.specs.Meets.{Meets, group_add}
use Rattle.design_base.specs.declared.limits.TheConstants.{COVER_MAX, POINTS_MAX}
use Rattle.design_base.specs.declared.query.Group.{Group}
use Rattle.design_base.specs.declared.query.Group.TheVariants.{Cyclic, Field}
use Rattle.design_base.specs.Same.{same_group}
use Rattle.design_base.specs.Steps.{Step}
use Rattle.design_base.specs.declared.query.Query.{Query}
use Rattle.design_base.specs.declared.query.Query.TheVariants.{Df}
use Rattle.design_base.specs.declared.rule.Rule.{Rule}
use Rattle.design_base.specs.declared.rule.Rule.TheVariants.{Table, Powers, Cosets, Cosets0, Halfcosets}
use Rattle.design_checks.proofs.Meeting.{passes_meets}
use Rattle.design_checks.specs.Findings.{passes_check}
use Rattle.difference_sets.proofs.ListedCosets.{cosets0_family, cosets_family, halfcosets_family}
use Rattle.difference_sets.proofs.TestedFamilies.{IsListedFamily, each_listed, family_is_row, row_is_family}
use Rattle.difference_sets.specs.Families.{coset0_blocks, coset_blocks, family_blocks, halfcoset_blocks, power_blocks, step_blocks}
use Rattle.difference_sets.specs.FamilySteps.{IsFamilyStep, is_tested_step, are_cosets, are_cosets0, are_halfcosets, are_powers, family_applies, is_family_step, is_listed_family, is_power_row, is_stated, is_stated_step}
use Rattle.difference_sets.specs.Listed.{families, family_at}
use Rattle.field_tables.proofs.Listed.{FieldAt-listed}

-- the numbers of a question that is in bounds
pub record IsAsked (v k l : ℕ) : Type 0 where
  pub two : 2 ≤ k
  pub inside : k ≤ v
  pub small : v ≤ POINTS_MAX
  pub some : 1 ≤ l
  pub few : l ≤ COVER_MAX

pub asked : (group : Group) (v k l : ℕ) → in_bounds (Df group v k l) ≡ true → IsAsked v k l
unfolding in_bounds
asked group v k l e =
    let a = both (within 2 v k && nat_le v POINTS_MAX && within 1 COVER_MAX l) (is_listed group v) e in
    let b = both (within 2 v k && nat_le v POINTS_MAX) (within 1 COVER_MAX l) a.0 in
    let c = both (within 2 v k) (nat_le v POINTS_MAX) b.0 in
    let d = both (nat_le 1 l) (nat_le l COVER_MAX) b.1 in
    let f = both (nat_le 2 k) (nat_le k v) c.0 in
    record { two = leb-true 2 k f.0; inside = leb-true k v f.1; small = leb-true v POINTS_MAX c.1; some = leb-true 1 l d.0; few = leb-true l COVER_MAX d.1 }

listed_meets : (n : ℕ) (group : Group) (v k l : ℕ) → is_listed_family n group v k l ≡ true → Meets (Df group v k l) (canonical (family_at n).blocks)
unfolding is_listed_family family_at
listed_meets n group v k l h =
    let f = family_at n in
    let a = both (1 <= n && n <= length families) (same_group f.group group && (f.v == v && (f.k == k && f.l == l))) h in
    let inside = both (1 <= n) (n <= length families) a.0 in
    let b = both (same_group f.group group) (f.v == v && (f.k == k && f.l == l)) a.1 in
    let c = both (f.v == v) (f.k == k && f.l == l) b.1 in
    let d = both (f.k == k) (f.l == l) c.1 in
    let is : IsListedFamily f = All-from_recursion IsListedFamily families each_listed (n - 1) _ (omega (arith, leb-true 1 n inside.0, leb-true n (length families) inside.1)) in
    subst (λ g. Meets (Df g v k l) (canonical f.blocks)) (group_same f.group group b.0)
    (subst (λ v. Meets (Df f.group v k l) (canonical f.blocks)) (eqb-true _ _ c.0)
    (subst (λ k. Meets (Df f.group f.v k l) (canonical f.blocks)) (eqb-true _ _ d.0)
    (subst (λ l. Meets (Df f.group f.v f.k l) (canonical f.blocks)) (eqb-true _ _ d.1) is)))

module _ (v k l : ℕ) where
  powers_stated : (e z : ℕ) → (is_power_row v e z l && k == (v - 1) / e + z) ≡ true → are_powers e z v k ≡ true
  unfolding are_powers
  powers_stated e z h =
      let a = both (is_power_row v e z l) (k == (v - 1) / e + z) h in
      let row = row_is_family v e z l a.0 in
      let b = both (is_among e _ && divides e (v - 1)) (is_among z _) row.index in
      let c = both (is_among e _) (divides e (v - 1)) b.0 in
      and_from _ _ (and_from _ _ (and_from _ _ (and_from _ _ row.listed c.0) c.1) b.1) a.1

  powers_meet : (e z : ℕ) → (is_power_row v e z l && k == (v - 1) / e + z) ≡ true → Meets (Df Field v k l) (canonical (power_blocks v e z))
  unfolding group_add
  powers_meet e z h =
      let a = both (is_power_row v e z l) (k == (v - 1) / e + z) h in
      let row = row_is_family v e z l a.0 in
      (FieldAt-listed v row.listed, subst (λ k. IsDf (canonical (power_blocks v e z)) (field_sum v) v k l) (sym (eqb-true _ _ a.1)) row.family)

  powers_apply : (e z : ℕ) → IsAsked v k l → are_powers e z v k ≡ true → Meets (Df Field v k l) (canonical (power_blocks v e z)) → (is_power_row v e z l && k == (v - 1) / e + z) ≡ true
  unfolding are_powers group_add
  powers_apply e z known h meets =
      let a = both (has_field v && is_among e _ && divides e (v - 1) && is_among z _) (k == (v - 1) / e + z) h in
      let b = both (has_field v && is_among e _ && divides e (v - 1)) (is_among z _) a.0 in
      let c = both (has_field v && is_among e _) (divides e (v - 1)) b.0 in
      let d = both (has_field v) (is_among e _) c.0 in
      let size : k ≡ (v - 1) / e + z = eqb-true _ _ a.1 in
      and_from _ _
      (family_is_row v e z l d.0 (and_from _ _ (and_from _ _ d.1 c.1) b.1) known.some known.few (subst (λ k. IsDf (canonical (power_blocks v e z)) (field_sum v) v k l) size meets.1))
      a.1

  cosets_meet : are_cosets v k l ≡ true → Meets (Df Field v k l) (canonical (coset_blocks v k))
  unfolding are_cosets group_add
  cosets_meet h =
      let a = both (has_field v && divides k (v - 1)) (l + 1 == k) h in
      let b = both (has_field v) (divides k (v - 1)) a.0 in
      (FieldAt-listed v b.0, cosets_family v b.0 k l (eqb-true _ _ b.1) (omega (arith, eqb-true _ _ a.1)))

  cosets0_meet : 2 ≤ k → are_cosets0 v k l ≡ true → Meets (Df Field v k l) (canonical (coset0_blocks v k))
  unfolding are_cosets0 group_add
  cosets0_meet two h =
      let a = both (has_field v && divides (k - 1) (v - 1)) (l == k) h in
      let b = both (has_field v) (divides (k - 1) (v - 1)) a.0 in
      (FieldAt-listed v b.0, cosets0_family v b.0 k l (omega arith) (eqb-true _ _ b.1) (eqb-true _ _ a.1))

  halfcosets_meet : are_halfcosets v k l ≡ true → Meets (Df Field v k l) (canonical (halfcoset_blocks v k))
  unfolding are_halfcosets group_add
  halfcosets_meet h =
      let a = both (has_field v && v % 2 == 1 && k % 2 == 1 && divides (2 * k) (v - 1)) (2 * l + 1 == k) h in
      let b = both (has_field v && v % 2 == 1 && k % 2 == 1) (divides (2 * k) (v - 1)) a.0 in
      let c = both (has_field v && v % 2 == 1) (k % 2 == 1) b.0 in
      let d = both (has_field v) (v % 2 == 1) c.0 in
      (FieldAt-listed v d.0, halfcosets_family v d.0 k l (eqb-true _ _ b.1) (eqb-true _ _ a.1))

-- ---- by the rules
pub applies_stated : (group : Group) (v k l : ℕ) (r : Rule) (a b : ℕ) → family_applies group v k l r a b ≡ true → is_stated group v k l r a b ≡ true
unfolding family_applies is_stated
applies_stated Field v k l Powers a b h = powers_stated v k l a b h
applies_stated Field v k l r a b h = h
applies_stated Cyclic v k l r a b h = h

pub applies_meets : (group : Group) (v k l : ℕ) (r : Rule) (a b : ℕ) → IsAsked v k l → family_applies group v k l r a b ≡ true → Meets (Df group v k l) (canonical (family_blocks v k r a b))
unfolding family_applies is_stated family_blocks
applies_meets group v k l Table a b known h = listed_meets a group v k l (let stated : is_listed_family a group v k l ≡ true = applies_stated group v k l Table a b h in stated)
applies_meets Field v k l Powers a b known h = powers_meet v k l a b h
applies_meets Field v k l Cosets a b known h = cosets_meet v k l h
applies_meets Field v k l Cosets0 a b known h = cosets0_meet v k l known.two h
applies_meets Field v k l Halfcosets a b known h = halfcosets_meet v k l h
applies_meets Field v k l r a b known h = absurd (let f : false ≡ true = h in cc)
applies_meets Cyclic v k l r a b known h = absurd (let f : false ≡ true = h in cc)

pub meets_applies : (group : Group) (v k l : ℕ) (r : Rule) (a b : ℕ) → IsAsked v k l → is_stated group v k l r a b ≡ true → Meets (Df group v k l) (canonical (family_blocks v k r a b)) → family_applies group v k l r a b ≡ true
unfolding family_applies is_stated family_blocks
meets_applies Field v k l Powers a b known h meets = powers_apply v k l a b known h meets
meets_applies Field v k l r a b known h meets = h
meets_applies Cyclic v k l r a b known h meets = h

pub step_law : (q : Query) (s : Step) → in_bounds q ≡ true → (is_family_step q s ≡ true) ↔ IsFamilyStep q s
unfolding is_family_step is_stated_step step_blocks
step_law (Df group v k l) s bounds =
    let known = asked group v k l bounds in (
      (λ h. record { stated = applies_stated group v k l s.rule s.a s.b h; meets = applies_meets group v k l s.rule s.a s.b known h }),
      (λ h. meets_applies group v k l s.rule s.a s.b known h.stated h.meets),
    )
step_law q s bounds = ((λ h. absurd (let f : false ≡ true = h in cc)), (λ h. absurd (let f : false ≡ true = h.stated in cc)))

-- the test and the closed form are equal
pub tested_law : (q : Query) (s : Step) → in_bounds q ≡ true → is_tested_step q s ≡ is_family_step q s
unfolding is_tested_step
tested_law q s bounds = bool_same _ _
    (λ h. let a = both (is_stated_step q s) (passes_check q (step_blocks q s)) h in
    (step_law q s bounds).1 (record { stated = a.0; meets = (passes_meets q (step_blocks q s)).0 a.1 }))
    (λ h. let is = (step_law q s bounds).0 h in and_from _ _ is.stated ((passes_meets q (step_blocks q s)).1 is.meets))
