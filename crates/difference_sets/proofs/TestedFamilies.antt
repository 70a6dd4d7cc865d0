-- Which powers are difference families, and that the families listed one by one are: the checker tests them.
use Rattle.std.proofs.Common.{Bool, List, None, Option, Some, [], ◌∷◌, ap, arith, false, length, refl, subst, sym, true, ℕ, ◌*◌, ◌+◌, ◌-◌, ◌/◌, ◌<◌, ◌≤◌, ◌∙◌, ◌≡◌, ◌||◌}
use Rattle.std.proofs.Math.Nat.{div-add-mod'}
use Rattle.counting.proofs.Booleans.{and_from, both, eq-eqb, eqb-true, false≢true, leb-true}
use Rattle.std.specs.List.{AllByRecursion, list_any}
use Rattle.std.specs.Prelude.{is_some, not, ◌%◌, ◌&&◌, ◌==◌}
use Rattle.block_counts.proofs.Families.{differences_counted}
use Rattle.counting.specs.Division.{divides}
use Rattle.counting.specs.Search.{each_passes, first_in, is_among, upward, ◌<=◌}
use Rattle.counting.specs.Sorting.{insert_by, sort_by}
use Rattle.counting.specs.Sums.{join_below}
use Rattle.criteria.proofs.Laws.{group_sum}
use Rattle.design_base.specs.Blocks.{IsDf, differences}
use Rattle.design_base.specs.Canonical.{canonical, lex_le}
use Rattle.design_base.specs.Fields.{Modulus, field_product, field_sum, gen, has_field, moduli, modulus_of, order, powers_from, product_in, sum_in}
use Rattle.design_base.specs.Meets.{Meets, group_add}
use Rattle.design_base.specs.declared.limits.TheConstants.{COVER_MAX}
use Rattle.design_base.specs.declared.query.Group.{Group}
use Rattle.design_base.specs.declared.query.Group.TheVariants.{Cyclic, Field}
use Rattle.design_base.specs.declared.query.Query.TheVariants.{Df}
use Rattle.design_checks.proofs.Meeting.{valid_from}
use Rattle.design_checks.proofs.Valid.{family_is_valid, valid_is_family}
use Rattle.design_checks.specs.Findings.{family_finding, is_valid, rises}
use Rattle.difference_sets.specs.Families.{coset, cosets, field_cosets, power_blocks}
use Rattle.difference_sets.specs.FamilySteps.{is_power_row, is_row}
use Rattle.difference_sets.specs.Listed.{Family, families, family}
use Rattle.difference_sets.specs.declared.powers.PowerRow.{PowerRow}
use Rattle.difference_sets.specs.declared.powers.TheConstants.{POWER_ROWS}
use Rattle.field_tables.proofs.Generators.{least_in}
use Rattle.field_tables.proofs.Listed.{FieldAt-listed, listed_field, modulus_known}
use Rattle.field_tables.proofs.Search.{each_first, first_in-each, passes_among, passes_below}
use Rattle.field_tables.specs.Powers.{power}

-- ---- a test of base blocks
abbrev pub is_family : List (List ℕ) → (ℕ → ℕ → ℕ) → ℕ → ℕ → ℕ → Bool
is_family B add v k l = is_valid (family_finding B add v k l)

family_from : (B : List (List ℕ)) (add : ℕ → ℕ → ℕ) (v k l : ℕ) → is_family B add v k l ≡ true → IsDf B add v k l
family_from B add v k l e = valid_is_family B add v k l (valid_from _ e)

family_told : (B : List (List ℕ)) (add : ℕ → ℕ → ℕ) (v k l : ℕ) → IsDf B add v k l → is_family B add v k l ≡ true
family_told B add v k l h = ap is_valid (family_is_valid B add v k l h)

-- ---- powers
abbrev pub tested : (ℕ → ℕ → ℕ) → (ℕ → ℕ → ℕ) → ℕ → ℕ → ℕ → ℕ → Bool
tested add mul q e z l =
    let g : ℕ = least_in mul q in
    let B : List (List ℕ) = canonical (cosets mul g z e ((q - 1) / e) 1) in
    is_family B add q ((q - 1) / e + z) l

-- e and z are among those that are tried, and e divides q - 1
abbrev pub is_index : ℕ → ℕ → ℕ → Bool
is_index q e z = (is_among e (2 ∷ 4 ∷ 8 ∷ []) && divides e (q - 1)) && is_among z (0 ∷ 1 ∷ [])

abbrev row_passes : PowerRow → Bool
row_passes r = elim (modulus_of r.q) [ None ↦ false | Some s ↦ is_index r.q r.e r.z && tested (sum_in (Some s)) (product_in (Some s)) r.q r.e r.z r.l ]

rows_pass : each_passes row_passes POWER_ROWS ≡ true
unfolding each_passes first_in is_among powers_from join_below modulus_of moduli coset cosets power canonical sort_by insert_by lex_le rises differences
rows_pass = refl

-- some element passes both tests
both_pass : {X : Type 0} (each test : X → Bool) (xs : List X) → each_passes each xs ≡ true → list_any test xs ≡ true → (x : X) × (each x ≡ true) × (test x ≡ true)
both_pass each test [] e h = absurd (let f : false ≡ true = h in cc)
both_pass each test (x ∷ xs) e h = by (test x) refl (both_pass each test xs (each_first each x xs e).1) h
  where
    by : (b : Bool) → test x ≡ b → (list_any test xs ≡ true → (y : _) × (each y ≡ true) × (test y ≡ true)) → (b || list_any test xs) ≡ true → (y : _) × (each y ≡ true) × (test y ≡ true)
    by true f rest h = (x, (each_first each x xs e).0, f)
    by false f rest h = rest h

tested_field : (q e z l : ℕ) (s : Modulus) → modulus_of q ≡ Some s → tested (sum_in (Some s)) (product_in (Some s)) q e z l ≡ tested (field_sum q) (field_product q) q e z l
tested_field q e z l s found =
    let known = modulus_known q s found in
    ap (λ add. tested add (product_in (Some s)) q e z l) (sym known.sums) ∙ ap (λ mul. tested (field_sum q) mul q e z l) (sym known.products)

tested_is : (q e z l : ℕ) → tested (field_sum q) (field_product q) q e z l ≡ is_family (canonical (power_blocks q e z)) (field_sum q) q ((q - 1) / e + z) l
unfolding field_cosets gen
tested_is q e z l = refl

-- a row of the table
pub record IsPowerFamily (q e z l : ℕ) : Type 0 where
  pub listed : has_field q ≡ true
  pub index : is_index q e z ≡ true
  pub family : IsDf (canonical (power_blocks q e z)) (field_sum q) q ((q - 1) / e + z) l

abbrev power_row : ℕ → ℕ → ℕ → ℕ → PowerRow
power_row q e z l = record { q = q; e = e; z = z; l = l }

row_known : (q e z l : ℕ) → row_passes (power_row q e z l) ≡ true → IsPowerFamily q e z l
row_known q e z l h = by (modulus_of q) refl h
  where
    by : (o : Option Modulus) → modulus_of q ≡ o → elim o [ None ↦ false | Some s ↦ is_index q e z && tested (sum_in (Some s)) (product_in (Some s)) q e z l ] ≡ true → IsPowerFamily q e z l
    by None found h = absurd (let f : false ≡ true = h in cc)
    by (Some s) found h =
        let t = both (is_index q e z) (tested (sum_in (Some s)) (product_in (Some s)) q e z l) h in
        record {
          listed = ap is_some found;
          index = t.0;
          family = family_from (canonical (power_blocks q e z)) (field_sum q) q ((q - 1) / e + z) l (sym (tested_is q e z l) ∙ sym (tested_field q e z l s found) ∙ t.1);
        }

pub row_is_family : (q e z l : ℕ) → is_power_row q e z l ≡ true → IsPowerFamily q e z l
unfolding is_power_row
row_is_family q e z l h =
    let r = both_pass row_passes (is_row q e z l) POWER_ROWS rows_pass h in
    let t = both (r.0.q == q && r.0.e == e) (r.0.z == z && r.0.l == l) r.2 in
    let a = both (r.0.q == q) (r.0.e == e) t.0 in
    let b = both (r.0.z == z) (r.0.l == l) t.1 in
    row_known q e z l
    (subst (λ q. row_passes (power_row q e z l) ≡ true) (eqb-true _ _ a.0)
    (subst (λ e. row_passes (power_row r.0.q e z l) ≡ true) (eqb-true _ _ a.1)
    (subst (λ z. row_passes (power_row r.0.q r.0.e z l) ≡ true) (eqb-true _ _ b.0)
    (subst (λ l. row_passes (power_row r.0.q r.0.e r.0.z l) ≡ true) (eqb-true _ _ b.1) r.1))))

-- what the places of a row may be
pub row_small : (q e z l : ℕ) → is_power_row q e z l ≡ true → (0 < e) × (z ≤ 1)
unfolding each_passes
row_small q e z l h =
    let a = both (is_among e (2 ∷ 4 ∷ 8 ∷ []) && divides e (q - 1)) (is_among z (0 ∷ 1 ∷ [])) (row_is_family q e z l h).index in
    let b = both (is_among e (2 ∷ 4 ∷ 8 ∷ [])) (divides e (q - 1)) a.0 in
    (leb-true 1 e (passes_among (λ e. 1 <= e) e (2 ∷ 4 ∷ 8 ∷ []) least b.0), leb-true z 1 (passes_among (λ z. z <= 1) z (0 ∷ 1 ∷ []) most a.1))
  where
    least : each_passes (λ e. 1 <= e) (2 ∷ 4 ∷ 8 ∷ []) ≡ true
    least = refl

    most : each_passes (λ z. z <= 1) (0 ∷ 1 ∷ []) ≡ true
    most = refl

-- ---- and no others: the rest do not have the right number of differences, or fail the test
abbrev pub counts_agree : ℕ → ℕ → ℕ → ℕ → Bool
counts_agree q e z l = let k : ℕ = (q - 1) / e + z in ((q - 1) / e * e == q - 1 && k * (k - 1) == l * (q - 1))

abbrev pub is_open : ℕ → ℕ → ℕ → ℕ → Bool
is_open q e z l = counts_agree q e z l && not (is_power_row q e z l)

abbrev pub fails : (ℕ → ℕ → ℕ) → (ℕ → ℕ → ℕ) → ℕ → ℕ → ℕ → ℕ → Bool
fails add mul q e z l = elim (is_open q e z l) [ true ↦ not (tested add mul q e z l) | false ↦ true ]

abbrev each_cover : (ℕ → Bool) → Bool
each_cover test = each_passes test (upward 1 COVER_MAX)

abbrev modulus_settled : Modulus → Bool
modulus_settled s =
    let q : ℕ = order s in
    each_passes (λ e. each_passes (λ z. each_cover (λ l. fails (sum_in (Some s)) (product_in (Some s)) q e z l)) (0 ∷ 1 ∷ [])) (2 ∷ 4 ∷ 8 ∷ [])

moduli_settled : each_passes modulus_settled moduli ≡ true
unfolding is_power_row each_passes first_in is_among powers_from join_below moduli coset cosets power canonical sort_by insert_by lex_le rises differences
moduli_settled = refl

one_block : (q e z : ℕ) → length (canonical (power_blocks q e z)) ≡ 1
unfolding field_cosets cosets join_below canonical sort_by insert_by
one_block q e z = refl

contradicts : (t : Bool) → t ≡ true → not t ≡ true → ⊥
contradicts true e h = false≢true h
contradicts false e h = false≢true e

pub family_is_row : (q e z l : ℕ) → has_field q ≡ true → is_index q e z ≡ true → 1 ≤ l → l ≤ COVER_MAX → IsDf (canonical (power_blocks q e z)) (field_sum q) q ((q - 1) / e + z) l → is_power_row q e z l ≡ true
unfolding modulus_of group_add
family_is_row q e z l listed index some few family = by_modulus (modulus_of q) refl listed
  where
    k : ℕ
    k = (q - 1) / e + z

    two : 1 ≤ q
    two = omega (arith, (listed_field q listed).ring.one_below)

    counted : k * (k - 1) ≡ l * (q - 1)
    counted = omega (
      arith,
      differences_counted (canonical (power_blocks q e z)) (field_sum q) q k l (group_sum Field q two (FieldAt-listed q listed)) family two,
      ap (λ n. n * (k * (k - 1))) (one_block q e z),
    )

    a : ((is_among e (2 ∷ 4 ∷ 8 ∷ []) && divides e (q - 1)) ≡ true) × (is_among z (0 ∷ 1 ∷ []) ≡ true)
    a = both (is_among e (2 ∷ 4 ∷ 8 ∷ []) && divides e (q - 1)) (is_among z (0 ∷ 1 ∷ [])) index

    b : (is_among e (2 ∷ 4 ∷ 8 ∷ []) ≡ true) × (divides e (q - 1) ≡ true)
    b = both (is_among e (2 ∷ 4 ∷ 8 ∷ [])) (divides e (q - 1)) a.0

    agrees : counts_agree q e z l ≡ true
    agrees = and_from _ _ (eq-eqb _ _ (omega (arith, div-add-mod' (q - 1) e, eqb-true ((q - 1) % e) 0 b.1))) (eq-eqb _ _ counted)

    by_row : (s : Modulus) → modulus_of q ≡ Some s → (b : Bool) → is_power_row q e z l ≡ b → fails (sum_in (Some s)) (product_in (Some s)) q e z l ≡ true → is_power_row q e z l ≡ true
    by_row s found true f h = f
    by_row s found false f h =
        let opened : is_open q e z l ≡ true = and_from _ _ agrees (ap not f) in
        let failed : not (tested (sum_in (Some s)) (product_in (Some s)) q e z l) ≡ true =
        sym (ap (λ o. elim o [ true ↦ not (tested (sum_in (Some s)) (product_in (Some s)) q e z l) | false ↦ true ]) opened) ∙ h in
        absurd (contradicts _ (tested_field q e z l s found ∙ tested_is q e z l ∙ family_told (canonical (power_blocks q e z)) (field_sum q) q k l family) failed)

    by_modulus : (o : Option Modulus) → modulus_of q ≡ o → is_some o ≡ true → is_power_row q e z l ≡ true
    by_modulus None found h = absurd (let g = h in cc)
    by_modulus (Some s) found h =
        let f : ℕ → ℕ → ℕ → Bool = λ e z l. fails (sum_in (Some s)) (product_in (Some s)) (order s) e z l in
        let settled : modulus_settled s ≡ true = (first_in-each (λ s. order s == q) modulus_settled moduli s moduli_settled found).1 in
        let covers : each_cover (f e z) ≡ true = passes_among (λ z. each_cover (f e z)) z (0 ∷ 1 ∷ []) (passes_among (λ e. each_passes (λ z. each_cover (f e z)) (0 ∷ 1 ∷ [])) e (2 ∷ 4 ∷ 8 ∷ []) settled b.0) a.1 in
        by_row s found (is_power_row q e z l) refl
        (subst (λ n. fails (sum_in (Some s)) (product_in (Some s)) n e z l ≡ true) (modulus_known q s found).whole
        (subst (λ l. f e z l ≡ true) (let same : 1 + (l - 1) ≡ l = omega arith in same) (passes_below (f e z) (COVER_MAX + 1 - 1) (λ i. 1 + i) covers (l - 1) (omega arith))))

-- ---- the families listed one by one
abbrev listed_passes : Family → Bool
listed_passes n = elim n.group [
  | Cyclic ↦ is_family (canonical n.blocks) (λ x y. (x + y) % n.v) n.v n.k n.l
  | Field ↦ elim (modulus_of n.v) [ None ↦ false | Some s ↦ is_family (canonical n.blocks) (sum_in (Some s)) n.v n.k n.l ]
]

families_pass : each_passes listed_passes families ≡ true
unfolding families each_passes first_in join_below modulus_of moduli canonical sort_by insert_by lex_le rises differences
families_pass = refl

abbrev pub IsListedFamily : Family → Type 0
IsListedFamily n = Meets (Df n.group n.v n.k n.l) (canonical n.blocks)

listed_from : (n : Family) → listed_passes n ≡ true → IsListedFamily n
unfolding group_add
listed_from n h = by n.group n.v n.k n.l n.blocks h
  where
    by : (group : Group) (v k l : ℕ) (B : List (List ℕ)) → listed_passes (family group v k l B) ≡ true → Meets (Df group v k l) (canonical B)
    by Cyclic v k l B h = (tt, family_from (canonical B) (λ x y. (x + y) % v) v k l h)
    by Field v k l B h = by_modulus (modulus_of v) refl h
      where
        by_modulus : (o : Option Modulus) → modulus_of v ≡ o → elim o [ None ↦ false | Some s ↦ is_family (canonical B) (sum_in (Some s)) v k l ] ≡ true → Meets (Df Field v k l) (canonical B)
        by_modulus None found h = absurd (let f : false ≡ true = h in cc)
        by_modulus (Some s) found h = (FieldAt-listed v (ap is_some found), family_from (canonical B) (field_sum v) v k l (ap (λ add. is_family (canonical B) add v k l) (modulus_known v s found).sums ∙ h))

pub each_listed : AllByRecursion IsListedFamily families
each_listed = all families families_pass
  where
    all : (ns : List Family) → each_passes listed_passes ns ≡ true → AllByRecursion IsListedFamily ns
    all [] e = tt
    all (n ∷ ns) e = (listed_from n (each_first listed_passes n ns e).0, all ns (each_first listed_passes n ns e).1)
