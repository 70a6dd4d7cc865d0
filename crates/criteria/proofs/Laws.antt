-- Where a design stands, no criterion applies.
use Rattle.std.proofs.Common.{List, [], ap, arith, cond, false, length, refl, sym, true, ℕ, ◌%◌, ◌&&◌, ◌*◌, ◌+◌, ◌-◌, ◌/◌, ◌<◌, ◌==◌, ◌∙◌, ◌∷◌, ◌≡◌, ◌≤◌, None, Option, Some, subst}
use Rattle.std.proofs.Math.Nat.{le-div_iff_mul-le, mul-le-mul_right, mul-mod_left, mul-pos}
use Rattle.counting.proofs.Booleans.{eq-eqb, false≢true, le-ltb}
use Rattle.std.proofs.lemmas.Bool.Decides.{nat_tests}
use Rattle.std.specs.List.{AllByRecursion}
use Rattle.std.specs.Prelude.{IsSome, find, nat_lt, not, option_map}
use Rattle.counting.specs.Division.{divides}
use Rattle.counting.specs.Search.{◌<=◌}
use Rattle.design_base.specs.declared.verdict.Criterion.{Criterion}
use Rattle.design_base.specs.declared.query.Group.{Group}
use Rattle.design_base.specs.declared.query.Query.{Query}
use Rattle.design_base.specs.declared.query.Query.TheVariants.{Td, Df, Bibd, Gdd, Pbd}
use Rattle.design_base.specs.Blocks.{IsBibd, IsGdd, IsPbd, replication}
use Rattle.design_base.specs.Limits.{in_bounds}
use Rattle.design_base.specs.Meets.{GroupAt, Meets, group_add}
use Rattle.field_tables.proofs.AnyGroup.{group_cancel, group_difference}
use Rattle.field_tables.proofs.GroupSums.{group_sums}
use Rattle.block_counts.specs.Counts.{replication_number}
use Rattle.block_counts.specs.Laws.{IsGroupSum}
use Rattle.block_counts.proofs.Families.{differences_counted}
use Rattle.block_counts.proofs.Fisher.{fisher}
use Rattle.block_counts.proofs.Groups.{few_groups, group_count, group_replication}
use Rattle.block_counts.proofs.Parts.{parts}
use Rattle.block_counts.proofs.Replication.{block_count, number_times}
use Rattle.criteria.specs.declared.table.Comparison.{Comparison}
use Rattle.criteria.specs.Criteria.{reason_of, reasons, criterion_of, reach}
use Rattle.criteria.proofs.Bound.{groups_bound}

abbrev Fails : Comparison → Type 0
Fails row = row.applies ≡ false

-- a product is divided by its factor
divided : (d q n : ℕ) → q * d ≡ n → not (divides d n) ≡ false
divided d q n e = ap not (eq-eqb (n % d) 0 (ap (λ t. t % d) (sym e) ∙ mul-mod_left q d))

not_both : (a b c d : ℕ) → (a < b → d ≤ c) → (nat_lt a b && nat_lt c d) ≡ false
not_both a b c d h = grind (arith, nat_tests)

not_all : (a b c d e : ℕ) → (a ≡ b → 2 ≤ c → e ≤ d) → ((a == b) && (2 <= c) && nat_lt d e) ≡ false
not_all a b c d e h = grind (arith, nat_tests)

-- ---- each kind of design
bibd_fails : (v k l : ℕ) (B : List (List ℕ)) → 2 ≤ k → k ≤ v → 1 ≤ l → IsBibd B v k l → AllByRecursion Fails (reasons (Bibd v k l))
unfolding reasons
bibd_fails v k l B two most some design = (
  divided (k - 1) (replication_number v k l) (l * (v - 1)) (number_times B v k l design two 0 (omega arith)),
  (
    divided k (length B) (v * replication_number v k l) (sym (block_count B v k l design two)),
    (not_both k v (replication_number v k l) k (λ less. (fisher B v k l design two less some).0), tt),
  ),
)

td_fails : (k n : ℕ) (B : List (List ℕ)) → 2 ≤ k → IsGdd B k n k → AllByRecursion Fails (reasons (Td k n))
unfolding reasons
td_fails k n B two design = (let most = groups_bound k n B two in bounded k n (λ h. most h design), tt)
  where
    bounded : (k n : ℕ) → (2 ≤ n → k ≤ n + 1) → ((2 <= n) && nat_lt (n + 1) k) ≡ false
    bounded k n h = grind (arith, nat_tests)

gdd_fails : (k g u : ℕ) (B : List (List ℕ)) → 2 ≤ k → 1 ≤ g → 2 ≤ u → IsGdd B k g u → AllByRecursion Fails (reasons (Gdd k g u))
unfolding reasons
gdd_fails k g u B two some more design = (
  le-ltb u k (few_groups B k g u design some more),
  (
    not_all u k g (g + 1) k (λ same big. groups_bound k g B two big (subst (λ t. IsGdd B k g t) same design)),
    (
      divided (k - 1) (replication B 0) (g * (u - 1)) (group_replication B k g u design two 0 (mul-pos some (let h : 0 < u = omega arith in h))),
      (divided (k * (k - 1)) (length B) (g * g * u * (u - 1)) (group_count B k g u design two), tt),
    ),
  ),
)

-- the groups of the questions
pub group_sum : (group : Group) (v : ℕ) → 1 ≤ v → GroupAt group v → IsGroupSum v (group_add group v)
group_sum group v some at =
    let sums = group_sums group v some at in
    record {
      zero_neutral = sums.zero_neutral;
      reaches = λ x y l m. group_difference v (group_add group v) sums x y m;
      cancels = λ x d e l m n same. group_cancel v (group_add group v) sums x d e m n same;
    }

df_fails : (group : Group) (v k l : ℕ) (B : List (List ℕ)) → 1 ≤ v → Meets (Df group v k l) B → AllByRecursion Fails (reasons (Df group v k l))
unfolding reasons
df_fails group v k l B some meets = (divided (k * (k - 1)) (length B) (l * (v - 1)) (differences_counted B (group_add group v) v k l (group_sum group v some meets.0) meets.1 some), tt)

pbd_fails : (v s : ℕ) (B : List (List ℕ)) → 1 ≤ v → 2 ≤ s → IsPbd B v s → AllByRecursion Fails (reasons (Pbd v s))
unfolding reasons
pbd_fails v s B some two design =
    let cut = parts B v s design (let h : 1 ≤ s = omega arith in h) 0 some in
    let fits : replication B 0 ≤ (v - 1) / (s - 1) = (le-div_iff_mul-le (let h : 0 < s - 1 = omega arith in h)).1 cut.0 in
    (le-ltb (reach v s) (v - 1) (omega (arith, cut.1, mul-le-mul_right s fits)), tt)

none_applies : (q : Query) (B : List (List ℕ)) → in_bounds q ≡ true → Meets q B → AllByRecursion Fails (reasons q)
unfolding in_bounds
none_applies (Bibd v k l) B bounds meets = bibd_fails v k l B (grind (arith, nat_tests)) (grind (arith, nat_tests)) (grind (arith, nat_tests)) meets
none_applies (Td k n) B bounds meets = td_fails k n B (grind (arith, nat_tests)) meets
none_applies (Gdd k g u) B bounds meets = gdd_fails k g u B (grind (arith, nat_tests)) (grind (arith, nat_tests)) (grind (arith, nat_tests)) meets
none_applies (Df group v k l) B bounds meets = df_fails group v k l B (grind (arith, nat_tests)) meets
none_applies (Pbd v s) B bounds meets = pbd_fails v s B (grind (arith, nat_tests)) (grind (arith, nat_tests)) meets

-- so none is found
none_found : (rows : List Comparison) → AllByRecursion Fails rows → find (λ row. row.applies) rows ≡ None
none_found [] h = refl
none_found (row ∷ rows) h = ap (λ t. cond t (Some row) (find (λ row. row.applies) rows)) h.0 ∙ none_found rows h.1

pub criterion_law : (q : Query) → in_bounds q ≡ true → IsSome (criterion_of q) → (B : List (List ℕ)) → Meets q B → ⊥
unfolding reason_of
criterion_law q bounds some B meets = none (criterion_of q) (ap (option_map (λ row. row.criterion)) (none_found (reasons q) (none_applies q B bounds meets))) some
  where
    none : (o : Option Criterion) → o ≡ None → IsSome o → ⊥
    none o e h = false≢true (subst IsSome e h)
