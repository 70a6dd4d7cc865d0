-- What a step that applies tells of its numbers, and that its list meets the question.
use Rattle.std.proofs.Common.{arith, false, refl, true, ℕ, ◌%◌, ◌*◌, ◌+◌, ◌-◌, ◌/◌, ◌<◌, ◌≡◌, ◌≤◌}
use Rattle.std.proofs.Math.Nat.{div-add-mod'}
use Rattle.counting.proofs.Booleans.{both, eqb-true, leb-true}
use Rattle.counting.proofs.Division.{whole_times}
use Rattle.std.specs.Prelude.{◌&&◌, ◌==◌, length}
use Rattle.counting.specs.Division.{divides}
use Rattle.counting.specs.Search.{is_among, ◌<=◌}
use Rattle.design_base.specs.Canonical.{canonical}
use Rattle.design_base.specs.Fields.{has_field}
use Rattle.design_base.specs.Meets.{Meets}
use Rattle.design_base.specs.Steps.{Step}
use Rattle.design_base.specs.declared.query.Group.{Group}
use Rattle.design_base.specs.declared.query.Group.TheVariants.{Cyclic, Field}
use Rattle.design_base.specs.declared.query.Query.{Query}
use Rattle.design_base.specs.declared.query.Query.TheVariants.{Bibd, Df, Gdd, Pbd, Td}
use Rattle.design_base.specs.declared.rule.Rule.{Rule}
use Rattle.design_base.specs.declared.rule.Rule.TheVariants.{Cosets, Cosets0, Halfcosets, Powers, Table}
use Rattle.difference_sets.proofs.ListedCosets.{twice_times}
use Rattle.difference_sets.proofs.StepsMeet.{step_law}
use Rattle.difference_sets.proofs.TestedFamilies.{row_is_family, row_small}
use Rattle.difference_sets.specs.Conditions.{CanBuildCosets, CanBuildFamily}
use Rattle.difference_sets.specs.Families.{step_blocks}
use Rattle.difference_sets.specs.FamilySteps.{are_cosets, are_cosets0, are_halfcosets, family_applies, is_family_over, is_family_step, is_listed_family, is_power_row, is_stated}
use Rattle.difference_sets.specs.Listed.{families, family_at}

-- the number of a listed family
listed_number : (n : ℕ) (group : Group) (v k l : ℕ) → is_listed_family n group v k l ≡ true → (1 ≤ n) × (n ≤ length families)
unfolding is_listed_family
listed_number n group v k l h =
    let a = both (1 <= n && n <= length families) (is_family_over (family_at n) group v k l) h in
    let b = both (1 <= n) (n <= length families) a.0 in
    (leb-true 1 n b.0, leb-true n (length families) b.1)

pub table_number : (group : Group) (v k l a b : ℕ) → family_applies group v k l Table a b ≡ true → (1 ≤ a) × (a ≤ length families)
unfolding family_applies is_stated
table_number Field v k l a b h = listed_number a Field v k l h
table_number Cyclic v k l a b h = listed_number a Cyclic v k l h

pub powers_build : (group : Group) (v k l e z : ℕ) → family_applies group v k l Powers e z ≡ true → (0 < e) × CanBuildCosets v z e ((v - 1) / e) 1
unfolding family_applies is_stated
powers_build Field v k l e z h =
    let row = (both (is_power_row v e z l) (k == (v - 1) / e + z) h).0 in
    let is = row_is_family v e z l row in
    let a = both (is_among e _ && divides e (v - 1)) (is_among z _) is.index in
    let whole : (v - 1) % e ≡ 0 = eqb-true _ _ (both (is_among e _) (divides e (v - 1)) a.0).1 in
    let small = row_small v e z l row in
    (small.0, record { listed = is.listed; zero = small.1; whole = omega (arith, div-add-mod' (v - 1) e, whole); inside = omega (arith, small.0) })
powers_build Cyclic v k l e z h = absurd (let f : false ≡ true = h in cc)

pub cosets_build : (group : Group) (v k l a b : ℕ) → family_applies group v k l Cosets a b ≡ true → CanBuildCosets v 0 ((v - 1) / k) k ((v - 1) / k)
unfolding family_applies is_stated are_cosets
cosets_build Field v k l a b h =
    let c = both (has_field v && divides k (v - 1)) (l + 1 == k) h in
    let d = both (has_field v) (divides k (v - 1)) c.0 in
    record { listed = d.0; zero = omega arith; whole = whole_times (v - 1) k (eqb-true _ _ d.1); inside = omega arith }
cosets_build Cyclic v k l a b h = absurd (let f : false ≡ true = h in cc)

pub cosets0_build : (group : Group) (v k l a b : ℕ) → family_applies group v k l Cosets0 a b ≡ true → CanBuildCosets v 1 ((v - 1) / (k - 1)) (k - 1) ((v - 1) / (k - 1))
unfolding family_applies is_stated are_cosets0
cosets0_build Field v k l a b h =
    let c = both (has_field v && divides (k - 1) (v - 1)) (l == k) h in
    let d = both (has_field v) (divides (k - 1) (v - 1)) c.0 in
    record { listed = d.0; zero = omega arith; whole = whole_times (v - 1) (k - 1) (eqb-true _ _ d.1); inside = omega arith }
cosets0_build Cyclic v k l a b h = absurd (let f : false ≡ true = h in cc)

pub halfcosets_build : (group : Group) (v k l a b : ℕ) → family_applies group v k l Halfcosets a b ≡ true → CanBuildCosets v 0 ((v - 1) / k) k ((v - 1) / k / 2)
unfolding family_applies is_stated are_halfcosets
halfcosets_build Field v k l a b h =
    let c = both (has_field v && v % 2 == 1 && k % 2 == 1 && divides (2 * k) (v - 1)) (2 * l + 1 == k) h in
    let d = both (has_field v && v % 2 == 1 && k % 2 == 1) (divides (2 * k) (v - 1)) c.0 in
    let e = both (has_field v && v % 2 == 1) (k % 2 == 1) d.0 in
    let twice = twice_times (v - 1) k (omega (arith, eqb-true _ _ c.1)) (eqb-true _ _ d.1) in
    record { listed = (both (has_field v) (v % 2 == 1) e.0).0; zero = omega arith; whole = twice.whole; inside = omega (arith, twice.halves) }
halfcosets_build Cyclic v k l a b h = absurd (let f : false ≡ true = h in cc)

-- no other rule applies
pub no_other : (group : Group) (v k l : ℕ) (r : Rule) (a b : ℕ) → family_applies group v k l r a b ≡ true →
    (r ≡ Table → ⊥) → (r ≡ Powers → ⊥) → (r ≡ Cosets → ⊥) → (r ≡ Cosets0 → ⊥) → (r ≡ Halfcosets → ⊥) → ⊥
unfolding family_applies is_stated
no_other Field v k l Table a b h t p c d e = t refl
no_other Field v k l Powers a b h t p c d e = p refl
no_other Field v k l Cosets a b h t p c d e = c refl
no_other Field v k l Cosets0 a b h t p c d e = d refl
no_other Field v k l Halfcosets a b h t p c d e = e refl
no_other Field v k l r a b h t p c d e = absurd (let f : false ≡ true = h in cc)
no_other Cyclic v k l Table a b h t p c d e = t refl
no_other Cyclic v k l r a b h t p c d e = absurd (let f : false ≡ true = h in cc)

pub no_question : (q : Query) (s : Step) → CanBuildFamily q s → ((group : Group) (v k l : ℕ) → q ≡ Df group v k l → ⊥) → ⊥
unfolding is_family_step
no_question (Df group v k l) s given n = n group v k l refl
no_question (Td k n) s given m = absurd (let f : false ≡ true = given.applies in cc)
no_question (Bibd v k l) s given n = absurd (let f : false ≡ true = given.applies in cc)
no_question (Gdd k g u) s given n = absurd (let f : false ≡ true = given.applies in cc)
no_question (Pbd v t) s given n = absurd (let f : false ≡ true = given.applies in cc)

-- the list of a step that applies meets the question
pub family_design : (q : Query) (s : Step) → CanBuildFamily q s → Meets q (canonical (step_blocks q s))
family_design q s given = ((step_law q s given.bounds).0 given.applies).meets
