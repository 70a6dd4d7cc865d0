-- A finding is Valid exactly where the block list meets the question.
use Rattle.std.proofs.Common.{Bool, List, ap, arith, false, refl, sym, true, ℕ, ◌&&◌, ◌*◌, ◌+◌, ◌<◌, ◌∙◌, ◌≡◌, ◌≤◌, ◌⊎◌}
use Rattle.counting.proofs.Booleans.{both, leb-true}
use Rattle.std.specs.Bool.{Decides}
use Rattle.std.specs.Prelude.{nat_le, ◌↔◌}
use Rattle.design_base.specs.Blocks.{IsBibd, IsGdd, IsPbd, IsTd, across}
use Rattle.design_base.specs.Canonical.{canonical}
use Rattle.design_base.specs.Fields.{FieldAt, has_field}
use Rattle.design_base.specs.Limits.{in_bounds, is_listed, within}
use Rattle.design_base.specs.Meets.{GroupAt, Meets, group_add}
use Rattle.design_base.specs.declared.limits.TheConstants.{COVER_MAX, POINTS_MAX}
use Rattle.design_base.specs.declared.query.Group.{Group}
use Rattle.design_base.specs.declared.query.Group.TheVariants.{Cyclic, Field}
use Rattle.design_base.specs.declared.query.Query.{Query}
use Rattle.design_base.specs.declared.query.Query.TheVariants.{Bibd, Df, Gdd, Pbd, Td}
use Rattle.field_tables.proofs.Listed.{FieldAt-listed, listed-FieldAt}
use Rattle.design_checks.proofs.Valid.{design_is_valid, exactly, family_is_valid, or_one_more, valid_is_design, valid_is_family}
use Rattle.design_checks.specs.Findings.{family_finding, finding, is_valid, passes_check}
use Rattle.design_checks.specs.declared.finding.Finding.{Finding}
use Rattle.design_checks.specs.declared.finding.Finding.TheVariants.{BadBlock, BadPair, Valid}

pub bibd_valid : (B : List (List ℕ)) (v k l : ℕ) → (finding (Bibd v k l) B ≡ Valid) ↔ IsBibd B v k l
unfolding finding
bibd_valid B v k l = (valid_is_design v k k (λ n. n ≡ k) (exactly k) B (λ x y. l), design_is_valid v k k (λ n. n ≡ k) (exactly k) B (λ x y. l))

pub gdd_valid : (B : List (List ℕ)) (k g u : ℕ) → (finding (Gdd k g u) B ≡ Valid) ↔ IsGdd B k g u
unfolding finding
gdd_valid B k g u = (valid_is_design (g * u) k k (λ n. n ≡ k) (exactly k) B (across g), design_is_valid (g * u) k k (λ n. n ≡ k) (exactly k) B (across g))

pub td_valid : (B : List (List ℕ)) (k n : ℕ) → (finding (Td k n) B ≡ Valid) ↔ IsTd B k n
unfolding finding
td_valid B k n = (valid_is_design (n * k) k k (λ n. n ≡ k) (exactly k) B (across n), design_is_valid (n * k) k k (λ n. n ≡ k) (exactly k) B (across n))

pub pbd_valid : (B : List (List ℕ)) (v s : ℕ) → (finding (Pbd v s) B ≡ Valid) ↔ IsPbd B v s
unfolding finding
pbd_valid B v s = (valid_is_design v s (s + 1) (λ n. (n ≡ s) ⊎ (n ≡ s + 1)) (or_one_more s) B (λ x y. 1), design_is_valid v s (s + 1) (λ n. (n ≡ s) ⊎ (n ≡ s + 1)) (or_one_more s) B (λ x y. 1))

-- where each listed order, and no other, has a field
module _ (fields : (q : ℕ) → Decides (has_field q) (FieldAt q)) where
  pub valid_meets : (q : Query) (B : List (List ℕ)) → finding q B ≡ Valid → Meets q B
  unfolding finding
  valid_meets (Td k n) B e = (td_valid B k n).0 e
  valid_meets (Df Cyclic v k l) B e = (tt, valid_is_family B (group_add Cyclic v) v k l e)
  valid_meets (Df Field v k l) B e = by_order (has_field v) refl e
    where
      by_order : (t : Bool) → has_field v ≡ t → ◌≡◌ {A = Finding} (elim t [ true ↦ family_finding B (group_add Field v) v k l | false ↦ BadPair 0 1 0 ]) Valid → Meets (Df Field v k l) B
      by_order true f e = ((fields v).0 f, valid_is_family B (group_add Field v) v k l e)
      by_order false f e = cc
  valid_meets (Bibd v k l) B e = (bibd_valid B v k l).0 e
  valid_meets (Gdd k g u) B e = (gdd_valid B k g u).0 e
  valid_meets (Pbd v s) B e = (pbd_valid B v s).0 e

  pub meets_valid : (q : Query) (B : List (List ℕ)) → Meets q B → finding q B ≡ Valid
  unfolding finding
  meets_valid (Td k n) B h = (td_valid B k n).1 h
  meets_valid (Df Cyclic v k l) B h = family_is_valid B (group_add Cyclic v) v k l h.1
  meets_valid (Df Field v k l) B h = by_order (has_field v) ((fields v).1 h.0)
    where
      by_order : (t : Bool) → t ≡ true → ◌≡◌ {A = Finding} (elim t [ true ↦ family_finding B (group_add Field v) v k l | false ↦ BadPair 0 1 0 ]) Valid
      by_order true f = family_is_valid B (group_add Field v) v k l h.1
      by_order false f = cc
  meets_valid (Bibd v k l) B h = (bibd_valid B v k l).1 h
  meets_valid (Gdd k g u) B h = (gdd_valid B k g u).1 h
  meets_valid (Pbd v s) B h = (pbd_valid B v s).1 h

-- what a check finds is Valid exactly where the list meets the question
pub found_meets : (q : Query) (B : List (List ℕ)) (found : Finding) → found ≡ finding q B → (found ≡ Valid) ↔ Meets q B
found_meets q B found e = ((λ f. valid_meets listed q B (sym e ∙ f)), (λ h. e ∙ meets_valid listed q B h))
  where
    listed : (q : ℕ) → Decides (has_field q) (FieldAt q)
    listed q = (FieldAt-listed q, listed-FieldAt q)

pub valid_from : (f : Finding) → is_valid f ≡ true → f ≡ Valid
valid_from Valid e = refl
valid_from (BadBlock i) e = cc
valid_from (BadPair x y c) e = cc

-- a block list passes its check exactly where it meets the question
pub passes_meets : (q : Query) (B : List (List ℕ)) → (passes_check q B ≡ true) ↔ Meets q (canonical B)
passes_meets q B = (
  (λ e. (found_meets q (canonical B) _ refl).0 (valid_from _ e)),
  (λ h. ap is_valid ((found_meets q (canonical B) _ refl).1 h)),
)

-- a group that is asked for in bounds
pub record IsGroup (group : Group) (v : ℕ) : Type 0 where
  pub some : 0 < v
  pub small : v ≤ POINTS_MAX
  pub listed : is_listed group v ≡ true
  pub is_group : GroupAt group v

listed_group : (group : Group) (v : ℕ) → is_listed group v ≡ true → GroupAt group v
listed_group Cyclic v e = tt
listed_group Field v e = FieldAt-listed v e

pub group_asked : (group : Group) (v k l : ℕ) → in_bounds (Df group v k l) ≡ true → IsGroup group v
unfolding in_bounds
group_asked group v k l e =
    let a = both (within 2 v k && nat_le v POINTS_MAX && within 1 COVER_MAX l) (is_listed group v) e in
    let b = both (within 2 v k && nat_le v POINTS_MAX) (within 1 COVER_MAX l) a.0 in
    let c = both (within 2 v k) (nat_le v POINTS_MAX) b.0 in
    let d = both (nat_le 2 k) (nat_le k v) c.0 in
    record {
      some = omega (arith, leb-true 2 k d.0, leb-true k v d.1);
      small = leb-true v POINTS_MAX c.1;
      listed = a.1;
      is_group = listed_group group v a.1;
    }

pub family_found : (group : Group) (v k l : ℕ) (B : List (List ℕ)) → is_listed group v ≡ true → finding (Df group v k l) B ≡ family_finding B (group_add group v) v k l
unfolding finding
family_found Cyclic v k l B e = refl
family_found Field v k l B e = by_order (has_field v) e
  where
    by_order : (t : Bool) → t ≡ true → ◌≡◌ {A = Finding} (elim t [ true ↦ family_finding B (group_add Field v) v k l | false ↦ BadPair 0 1 0 ]) (family_finding B (group_add Field v) v k l)
    by_order true f = refl
    by_order false f = cc
