-- Where the verdict is Yes, the list that goes with it is a quadruple system; where it is No, the number of points is wrong.
use Rattle.std.proofs.Common.{Bool, List, [], ap, arith, false, inl, inr, refl, subst, suc, sym, true, zero, ℕ, ◌%◌, ◌&&◌, ◌||◌, ◌*◌, ◌+◌, ◌-◌, ◌/◌, ◌<◌, ◌==◌, ◌∙◌, ◌≡◌, ◌≢◌, ◌≤◌, ◌⊎◌}
use Rattle.std.proofs.Math.Nat.{div-add-mod', mod-lt}
use Rattle.std.proofs.lemmas.Bool.Decides.{nat_tests}
use Rattle.std.specs.Prelude.{if◌then◌else◌}
use Rattle.counting.proofs.Booleans.{both, eqb-true, false≢true, leb-true, ne_eqb}
use Rattle.counting.specs.Search.{◌<=◌}
use Rattle.design_base.specs.Canonical.{canonical}
use Rattle.three_designs.specs.Quadruples.{double_blocks, four_blocks, small_or, sqs_judged, sqs_list_within, sqs_within, ten_blocks}
use Rattle.three_designs.specs.StrengthThree.{IsSqs}
use Rattle.three_designs.specs.Verdicts.{is_yes}
use Rattle.three_designs.specs.declared.verdict.ThreeRule.TheVariants.{Double, Four, Ten}
use Rattle.three_designs.specs.declared.verdict.ThreeVerdict.TheVariants.{No, Unknown, Yes}
use Rattle.three_designs.proofs.DoubledSystems.{double_is_sqs}
use Rattle.three_designs.proofs.SmallSystems.{four_is_sqs, ten_is_sqs}

abbrev has_points : ℕ → Bool
has_points v = v % 6 == 2 || v % 6 == 4

two_or_four : (v : ℕ) → has_points v ≡ true → (v % 6 ≡ 2) ⊎ (v % 6 ≡ 4)
two_or_four v e = grind (arith, nat_tests)

points_from : (v : ℕ) → (v % 6 ≡ 2) ⊎ (v % 6 ≡ 4) → has_points v ≡ true
points_from v e = grind (arith, nat_tests)

-- a number that is 2 or 4 modulo 6 is even
halves : (v : ℕ) → has_points v ≡ true → 2 * (v / 2) ≡ v
halves v e = by (v % 2) refl (two_or_four v e)
  where
    by : (r : ℕ) → v % 2 ≡ r → (v % 6 ≡ 2) ⊎ (v % 6 ≡ 4) → 2 * (v / 2) ≡ v
    by r f known = omega (arith, known, div-add-mod' v 6, div-add-mod' v 2, mod-lt v (let h : 0 < 2 = omega arith in h))

-- what a Yes says
pub record IsKnown (v : ℕ) (half : Bool) : Type 0 where
  pub points : has_points v ≡ true
  pub rule : (v ≡ 4) ⊎ ((v ≡ 10) ⊎ (half ≡ true))

known : (v : ℕ) (half : Bool) → is_yes (sqs_judged v half) ≡ true → IsKnown v half
known v half h = by (has_points v) (v == 4) (v == 10) half refl refl refl refl h
  where
    by : (a b c d : Bool) → has_points v ≡ a → (v == 4) ≡ b → (v == 10) ≡ c → half ≡ d
        → is_yes (if a then (if b then Yes Four else (if c then Yes Ten else (if d then Yes Double else Unknown))) else No) ≡ true → IsKnown v half
    by true true c d p e f g h = record { points = p; rule = inl (eqb-true v 4 e) }
    by true false true d p e f g h = record { points = p; rule = inr (inl (eqb-true v 10 f)) }
    by true false false true p e f g h = record { points = p; rule = inr (inr g) }
    by true false false false p e f g h = absurd (false≢true h)
    by false b c d p e f g h = absurd (false≢true h)

-- what a No says
no_points : (v : ℕ) (half : Bool) → sqs_judged v half ≡ No → has_points v ≡ false
no_points v half e = by (has_points v) (v == 4) (v == 10) half refl e
  where
    by : (a b c d : Bool) → has_points v ≡ a → (if a then (if b then Yes Four else (if c then Yes Ten else (if d then Yes Double else Unknown))) else No) ≡ No → has_points v ≡ false
    by true true c d p e = absurd (let g = e in cc)
    by true false true d p e = absurd (let g = e in cc)
    by true false false true p e = absurd (let g = e in cc)
    by true false false false p e = absurd (let g = e in cc)
    by false b c d p e = p

pub none_of_points : (halvings v : ℕ) → sqs_within halvings v ≡ No → (v % 6 ≡ 2) ⊎ (v % 6 ≡ 4) → ⊥
none_of_points zero v e points = false≢true (sym (no_points v false e) ∙ points_from v points)
none_of_points (suc halvings) v e points = false≢true (sym (no_points v (8 <= v && is_yes (sqs_within halvings (v / 2))) e) ∙ points_from v points)

-- the lists
small_or-other : (v : ℕ) (C : List (List ℕ)) → v ≢ 4 → v ≢ 10 → small_or v C ≡ C
small_or-other v C four ten = ap (λ b. if b then canonical four_blocks else (if v == 10 then canonical ten_blocks else C)) (ne_eqb v 4 four)
    ∙ ap (λ b. if b then canonical ten_blocks else C) (ne_eqb v 10 ten)

small_or-is : (v : ℕ) (half : Bool) (C : List (List ℕ)) → IsKnown v half → (half ≡ true → IsSqs C v) → IsSqs (small_or v C) v
small_or-is v half C k made = by (v == 4) (v == 10) refl refl
  where
    by : (a b : Bool) → (v == 4) ≡ a → (v == 10) ≡ b → IsSqs (if a then canonical four_blocks else (if b then canonical ten_blocks else C)) v
    by true b e f = subst (IsSqs (canonical four_blocks)) (sym (eqb-true v 4 e)) four_is_sqs
    by false true e f = subst (IsSqs (canonical ten_blocks)) (sym (eqb-true v 10 f)) ten_is_sqs
    by false false e f = made (elim k.rule [
      | inl g ↦ absurd (let h : (v == 4) ≡ true = grind (arith, nat_tests) in false≢true (sym e ∙ h))
      | inr (inl g) ↦ absurd (let h : (v == 10) ≡ true = grind (arith, nat_tests) in false≢true (sym f ∙ h))
      | inr (inr g) ↦ g
    ])

pub sqs_made : (halvings v : ℕ) → is_yes (sqs_within halvings v) ≡ true → IsSqs (sqs_list_within halvings v) v
sqs_made zero v h = small_or-is v false [] (known v false h) (λ e. absurd (false≢true e))
sqs_made (suc halvings) v h =
    let half : Bool = (8 <= v && is_yes (sqs_within halvings (v / 2))) in
    let k = known v half h in
    small_or-is v half (canonical (double_blocks (v / 2) (sqs_list_within halvings (v / 2)))) k (λ e.
    let t = both (8 <= v) (is_yes (sqs_within halvings (v / 2))) e in
    let big : 8 ≤ v = leb-true 8 v t.0 in
    subst (IsSqs (canonical (double_blocks (v / 2) (sqs_list_within halvings (v / 2))))) (halves v k.points)
    (double_is_sqs (sqs_list_within halvings (v / 2)) (v / 2) (omega (arith, halves v k.points, big)) (sqs_made halvings (v / 2) t.1)))

-- a system that is doubled
pub record IsHalved (halvings v : ℕ) : Type 0 where
  pub some : 0 < halvings
  pub large : 8 ≤ v
  pub whole : v / 2 + v / 2 ≡ v
  pub half : is_yes (sqs_within (halvings - 1) (v / 2)) ≡ true
  pub list : sqs_list_within halvings v ≡ canonical (double_blocks (v / 2) (sqs_list_within (halvings - 1) (v / 2)))

pub halved : (halvings v : ℕ) → is_yes (sqs_within halvings v) ≡ true → v ≢ 4 → v ≢ 10 → IsHalved halvings v
halved zero v h four ten = absurd (elim ((known v false h).rule) [ inl e ↦ four e | inr (inl e) ↦ ten e | inr (inr e) ↦ false≢true e ])
halved (suc halvings) v h four ten =
    let k = known v (8 <= v && is_yes (sqs_within halvings (v / 2))) h in
    let t = both (8 <= v) (is_yes (sqs_within halvings (v / 2))) (elim k.rule [ inl e ↦ absurd (four e) | inr (inl e) ↦ absurd (ten e) | inr (inr e) ↦ e ]) in
    let less : halvings ≡ suc halvings - 1 = omega arith in
    record {
      some = omega arith;
      large = leb-true 8 v t.0;
      whole = omega (arith, halves v k.points);
      half = subst (λ m. is_yes (sqs_within m (v / 2)) ≡ true) less t.1;
      list = small_or-other v _ four ten ∙ ap (λ m. canonical (double_blocks (v / 2) (sqs_list_within m (v / 2)))) less;
    }
