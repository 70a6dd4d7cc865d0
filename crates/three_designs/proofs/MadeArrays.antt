-- Where the verdict is Yes, its rule makes an array of strength three.
use Rattle.std.proofs.Common.{Bool, [], arith, false, refl, replicate, subst, sym, true, ℕ, ◌&&◌, ◌+◌, ◌<◌, ◌==◌, ◌∙◌, ◌∷◌, ◌≡◌, ◌≤◌}
use Rattle.std.proofs.lemmas.Grind.{same_number_lists}
use Rattle.std.proofs.lemmas.List.{get_or-replicate, length-replicate}
use Rattle.std.specs.Prelude.{if◌then◌else◌, nat_lt}
use Rattle.counting.proofs.Booleans.{both, eqb-true, leb-true}
use Rattle.counting.proofs.Ranges.{get_or-list_below, length-list_below}
use Rattle.counting.specs.Search.{◌<=◌}
use Rattle.counting.specs.Sorting.{sort_by}
use Rattle.counting.specs.Sums.{join_below, list_below}
use Rattle.design_base.specs.Canonical.{lex_le}
use Rattle.design_base.specs.Fields.{field_product, field_sum, has_field}
use Rattle.field_tables.proofs.Listed.{listed_field}
use Rattle.three_designs.specs.Arrays.{CanMakeRows, cube_rows, oa3_verdict_of, rows_by}
use Rattle.three_designs.specs.StrengthThree.{IsOa3}
use Rattle.three_designs.specs.Verdicts.{IfYes}
use Rattle.three_designs.specs.declared.verdict.ThreeRule.{ThreeRule}
use Rattle.three_designs.specs.declared.verdict.ThreeRule.TheVariants.{Double, Four, One, Polynomials, Sum, Ten}
use Rattle.three_designs.specs.declared.verdict.ThreeVerdict.TheVariants.{No, Unknown, Yes}
use Rattle.three_designs.proofs.Cubes.{cube_is_oa3, oa3-sort_by}
use Rattle.three_designs.proofs.PolynomialArrays.{polynomials_are_oa3}
use Rattle.three_designs.proofs.SumArrays.{sums_are_oa3}

-- one row of zeros
zeros_are_oa3 : (k : ℕ) → IsOa3 (replicate k 0 ∷ []) k 1
unfolding cube_rows join_below
zeros_are_oa3 k = subst (λ row. IsOa3 (row ∷ []) k 1) zeros (cube_is_oa3 k 1 (λ x y z j. 0) (record {
  small = λ x y z j lx ly lz l. omega arith;
  unique = λ h i j x y z u v w lh li lj lx ly lz lu lv lw e f g. (omega arith, omega arith, omega arith);
}))
  where
    zero_at : ℕ → ℕ
    zero_at j = 0

    zeros : list_below k zero_at ≡ replicate k 0
    zeros = same_number_lists (list_below k zero_at) (replicate k 0) (length-list_below k zero_at ∙ sym (length-replicate {A = ℕ} k 0)) (λ j l.
        let m : j < k = omega (arith, l, length-list_below k zero_at) in get_or-list_below k zero_at j 0 m ∙ sym (get_or-replicate k j 0 0 m))

rows_are_oa3 : (rule : ThreeRule) (k n : ℕ) → CanMakeRows rule k n → IsOa3 (rows_by rule k n) k n
rows_are_oa3 One k n needs = subst (IsOa3 (replicate k 0 ∷ []) k) (sym needs) (zeros_are_oa3 k)
rows_are_oa3 Sum k n needs = sums_are_oa3 n needs.0 k needs.1
rows_are_oa3 Polynomials k n needs = polynomials_are_oa3 k n (field_sum n) (field_product n) (listed_field n needs.0) needs.1
rows_are_oa3 Four k n needs = absurd needs
rows_are_oa3 Ten k n needs = absurd needs
rows_are_oa3 Double k n needs = absurd needs

-- the rule of the verdict has what it needs
oa3_can_make : (k n : ℕ) → 1 ≤ n → IfYes (oa3_verdict_of k n) (λ rule. CanMakeRows rule k n)
unfolding oa3_verdict_of
oa3_can_make k n some = by (n == 1) (nat_lt (n + 2) k) (k <= 4) (k <= n + 1 && has_field n) refl refl refl
  where
    by : (a b c d : Bool) → (n == 1) ≡ a → (k <= 4) ≡ c → (k <= n + 1 && has_field n) ≡ d
        → IfYes (if a then Yes One else (if b then No else (if c then Yes Sum else (if d then Yes Polynomials else Unknown)))) (λ rule. CanMakeRows rule k n)
    by true b c d one four field = eqb-true n 1 one
    by false true c d one four field = tt
    by false false true d one four field = (some, leb-true k 4 four)
    by false false false true one four field = let p = both (k <= n + 1) (has_field n) field in (p.1, leb-true k (n + 1) p.0)
    by false false false false one four field = tt

module _ (rule : ThreeRule) (k n : ℕ) (yes_by : oa3_verdict_of k n ≡ Yes rule) where
  pub oa3_needs : 1 ≤ n → CanMakeRows rule k n
  oa3_needs some = subst (λ verdict. IfYes verdict (λ rule. CanMakeRows rule k n)) yes_by (oa3_can_make k n some)

  pub oa3_made : 1 ≤ n → IsOa3 (sort_by lex_le (rows_by rule k n)) k n
  oa3_made some = oa3-sort_by k n (rows_by rule k n) (rows_are_oa3 rule k n (oa3_needs some))
