-- Each question on block designs with blocks of two points, of three, of all points but one and of all points is yes or no.
use Rattle.std.proofs.Common.{◌≡◌, ℕ, zero, suc, ◌+◌, ◌-◌, ◌*◌, ◌/◌, ◌%◌, ◌<◌, ◌≤◌, ◌==◌, Bool, true, false, cond, ◌&&◌, not, ◌⊎◌, inl, inr, arith, refl, ap, sym, subst, ◌∙◌}
use Rattle.std.specs.Prelude.{Option, Some, None, nat_lt, option_map}
use Rattle.std.proofs.Math.Nat.{add-mul-mod_self_right, mul-le-mul}
use Rattle.counting.proofs.Booleans.{cases_eq, cases_lt, eq-eqb}
use Rattle.std.proofs.lemmas.Bool.Decides.{nat_tests}
use Rattle.std.proofs.lemmas.Nat.{mul-mod}
use Rattle.counting.specs.Division.{divides}
use Rattle.counting.specs.Search.{◌<=◌}
use Rattle.design_base.specs.declared.query.Query.TheVariants.{Bibd}
use Rattle.design_base.specs.declared.rule.Rule.TheVariants.{Whole, Pairs, Omit, Bose, Skolem, Double, Middle, Ordered, Sum}
use Rattle.design_base.specs.declared.verdict.Criterion.{Criterion}
use Rattle.design_base.specs.declared.verdict.Verdict.{Verdict}
use Rattle.design_base.specs.declared.verdict.Verdict.TheVariants.{No, Unknown}
use Rattle.design_base.specs.Limits.{in_bounds}
use Rattle.design_base.specs.Steps.{step}
use Rattle.block_counts.specs.Counts.{replication_number}
use Rattle.criteria.specs.Criteria.{reasons, reason_of, criterion_of}
use Rattle.criteria.specs.declared.table.Comparison.{Comparison}
use Rattle.rule_terms.specs.BibdTerms.{bibd_terms}
use Rattle.rule_table.specs.Candidates.{is_candidate, premises}
use Rattle.rule_table.specs.Laws.{HasSettledSize, SettledLaw}
use Rattle.rule_terms.specs.Table.{terms}
use Rattle.rule_terms.specs.RuleTree.{allows, premises_at}
use Rattle.rule_table.specs.Verdicts.{judged, verdict, first_step, is_yes, yes_or_unknown}
use Rattle.rule_terms.proofs.Bounds.{bibd_bounds}
use Rattle.rule_table.proofs.Proved.{IsYes, proved_by, proved_alone}
use Rattle.rule_table.proofs.Unfolds.{verdict_unfolds}

-- ---- the criteria of block designs

none_found : (a b c : Bool) (x y z : Comparison) → a ≡ false → b ≡ false → c ≡ false → cond a (Some x) (cond b (Some y) (cond c (Some z) None)) ≡ None
none_found a b c x y z e f g = rw e rw f rw g refl

passed_over : (a b c : Bool) (x y z : Comparison) → option_map (λ r. r.criterion) (cond a (Some x) (cond b (Some y) (cond c (Some z) None))) ≡ None → (a ≡ false) × (b ≡ false)
passed_over true b c x y z e = cc
passed_over false true c x y z e = cc
passed_over false false c x y z e = (refl, refl)

-- none applies
unbroken : (v k l : ℕ) → l * (v - 1) % (k - 1) ≡ 0 → v * replication_number v k l % k ≡ 0 → (k < v → k ≤ replication_number v k l) → criterion_of (Bibd v k l) ≡ None
unfolding reasons reason_of
unbroken v k l replication count fisher =
    ap (option_map (λ r. r.criterion)) (none_found _ _ _ _ _ _ (divided _ replication) (divided _ count) (enough k v (replication_number v k l) fisher))
  where
    divided : (n : ℕ) → n ≡ 0 → not (n == 0) ≡ false
    divided n e = grind (arith, nat_tests)

    enough : (k v r : ℕ) → (k < v → k ≤ r) → (nat_lt k v && nat_lt r k) ≡ false
    enough k v r h = grind (arith, nat_tests)

-- both numbers divide
divided : (v k l : ℕ) → criterion_of (Bibd v k l) ≡ None → (l * (v - 1) % (k - 1) ≡ 0) × (v * replication_number v k l % k ≡ 0)
unfolding reasons reason_of
divided v k l e = let p = passed_over _ _ _ _ _ _ e in (none _ p.0, none _ p.1)
  where
    none : (n : ℕ) → not (n == 0) ≡ false → n ≡ 0
    none n e = grind (arith, nat_tests)

-- ---- by one rule

pairs_yes : (v l : ℕ) → in_bounds (Bibd v 2 l) ≡ true → criterion_of (Bibd v 2 l) ≡ None → IsYes (Bibd v 2 l)
unfolding terms bibd_terms
pairs_yes v l b c = proved_alone (Bibd v 2 l) Pairs _ b c refl refl refl

whole_yes : (v l : ℕ) → in_bounds (Bibd v v l) ≡ true → criterion_of (Bibd v v l) ≡ None → IsYes (Bibd v v l)
unfolding terms bibd_terms
whole_yes v l b c = proved_alone (Bibd v v l) Whole _ b c refl refl (eq-eqb v v refl)

-- l (v - 1) is l more than a multiple of v - 2
omit_yes : (v l : ℕ) → in_bounds (Bibd v (v - 1) l) ≡ true → criterion_of (Bibd v (v - 1) l) ≡ None → IsYes (Bibd v (v - 1) l)
unfolding terms bibd_terms
omit_yes v l b c = proved_alone (Bibd v (v - 1) l) Omit _ b c refl refl (fits (bibd_bounds v (v - 1) l b).least left)
  where
    left : l % (v - 2) ≡ 0
    left =
        let least = (bibd_bounds v (v - 1) l b).least in
        let more : l * (v - 1) ≡ l + l * (v - 2) = omega (arith, ap (λ n. l * n) (let e : v - 1 ≡ v - 2 + 1 = omega arith in e)) in
        let e : v - 1 - 1 ≡ v - 2 = omega arith in
        sym (add-mul-mod_self_right l l (v - 2)) ∙ ap (λ n. n % (v - 2)) (sym more) ∙ ap (λ n. l * (v - 1) % n) (sym e) ∙ (divided v (v - 1) l c).0

    fits : 2 ≤ v - 1 → l % (v - 2) ≡ 0 → (v - 1 == v - 1 && 3 <= v && divides (v - 2) l) ≡ true
    fits h e = grind (arith, nat_tests)

-- ---- by a sum

fewer_bounds : (v k l i : ℕ) → in_bounds (Bibd v k l) ≡ true → 1 ≤ i → i ≤ l → in_bounds (Bibd v k i) ≡ true
unfolding in_bounds
fewer_bounds v k l i b least most = grind (arith, nat_tests)

sum_yes : (v k l i : ℕ) → in_bounds (Bibd v k l) ≡ true → criterion_of (Bibd v k l) ≡ None → 1 ≤ i → 2 * i ≤ l → IsYes (Bibd v k i) → IsYes (Bibd v k (l - i)) → IsYes (Bibd v k l)
unfolding is_candidate premises terms bibd_terms allows premises_at
sum_yes v k l i b c least half first second =
    proved_by (Bibd v k l) (step Sum i 0 0 0) b c
    (record {
      a_small = omega (arith, (bibd_bounds v k l b).cover);
      b_small = omega arith;
      c_small = omega arith;
      d_small = omega arith;
      a_used = λ h. absurd (omega (arith, h));
      b_used = λ _. refl;
      c_used = λ _. refl;
      d_used = λ _. refl;
    })
    (allowed (in_bounds (Bibd v k i)) (in_bounds (Bibd v k (l - i))) (fewer_bounds v k l i b least (omega arith)) (fewer_bounds v k l (l - i) b (omega arith) (omega arith)))
    (first, (second, tt))
  where
    allowed : (a b : Bool) → a ≡ true → b ≡ true → ((1 <= i && i <= l / 2) && ((1 <= i && 2 * i <= l) && (a && (b && true)))) ≡ true
    allowed a b e f = grind (arith, nat_tests)

-- ---- block size three

-- what the criteria ask
record IsTriple (v l : ℕ) : Type 0 where
  pub pairs : l * (v - 1) % 2 ≡ 0
  pub thirds : (v % 3 ≡ 0) ⊎ (l * (v - 1) / 2 % 3 ≡ 0)

-- three divides a factor of a product that it divides
third : (a b : ℕ) → a * b % 3 ≡ 0 → (a % 3 ≡ 0) ⊎ (b % 3 ≡ 0)
third a b e = by (a % 3) (b % 3) (omega arith) (omega arith) (sym (mul-mod a b 3) ∙ e)
  where
    by : (x y : ℕ) → x < 3 → y < 3 → x * y % 3 ≡ 0 → (x ≡ 0) ⊎ (y ≡ 0)
    by zero y h k e = inl refl
    by (suc zero) y h k e = inr (omega (arith, e))
    by (suc (suc zero)) y h k e = inr (omega (arith, e))
    by (suc (suc (suc x))) y h k e = absurd (omega arith)

triple : (v l : ℕ) → criterion_of (Bibd v 3 l) ≡ None → IsTriple v l
triple v l c = let d = divided v 3 l c in record { pairs = d.0; thirds = third v (l * (v - 1) / 2) d.1 }

free : (v l : ℕ) → 1 ≤ l → IsTriple v l → criterion_of (Bibd v 3 l) ≡ None
free v l some t = unbroken v 3 l t.pairs (count t.thirds) fisher
  where
    count : (v % 3 ≡ 0) ⊎ (l * (v - 1) / 2 % 3 ≡ 0) → v * (l * (v - 1) / 2) % 3 ≡ 0
    count (inl e) = omega (arith, mul-mod v (l * (v - 1) / 2) 3, ap (λ n. n * (l * (v - 1) / 2 % 3)) e)
    count (inr e) = omega (arith, mul-mod v (l * (v - 1) / 2) 3, ap (λ n. v % 3 * n) e)

    small : (l ≡ 1) ⊎ (l ≡ 1 → ⊥) → 3 < v → (v % 3 ≡ 0) ⊎ (l * (v - 1) / 2 % 3 ≡ 0) → 3 ≤ l * (v - 1) / 2
    small (inl e) h (inl d) = omega (arith, ap (λ n. n * (v - 1)) e, t.pairs)
    small (inl e) h (inr d) = omega (arith, ap (λ n. n * (v - 1)) e, t.pairs)
    small (inr n) h d = let p : 2 * (v - 1) ≤ l * (v - 1) = mul-le-mul (let e : 2 ≤ l = grind (arith, n, some) in e) (omega arith) in omega arith

    fisher : 3 < v → 3 ≤ l * (v - 1) / 2
    fisher h = small (cases_eq l 1) h t.thirds

module _ (v : ℕ) where
  one_yes : in_bounds (Bibd v 3 1) ≡ true → IsTriple v 1 → IsYes (Bibd v 3 1)
  unfolding terms bibd_terms
  one_yes b t = by t.thirds
    where
      bose : v % 6 ≡ 3 → IsYes (Bibd v 3 1)
      bose e = proved_alone (Bibd v 3 1) Bose _ b (free v 1 (omega arith) t) refl refl (eq-eqb _ _ e)

      skolem : v % 6 ≡ 1 → 7 ≤ v → IsYes (Bibd v 3 1)
      skolem e h = proved_alone (Bibd v 3 1) Skolem _ b (free v 1 (omega arith) t) refl refl (grind (arith, nat_tests))

      by : (v % 3 ≡ 0) ⊎ (1 * (v - 1) / 2 % 3 ≡ 0) → IsYes (Bibd v 3 1)
      by (inl e) = bose (omega (arith, t.pairs, (bibd_bounds v 3 1 b).block))
      by (inr e) = skolem (omega (arith, t.pairs, (bibd_bounds v 3 1 b).block)) (omega (arith, t.pairs, (bibd_bounds v 3 1 b).block))

  two_yes : in_bounds (Bibd v 3 2) ≡ true → IsTriple v 2 → IsYes (Bibd v 3 2)
  unfolding terms bibd_terms
  two_yes b t = by (cases_eq v 7)
    where
      fits : v % 3 ≤ 1 → (v ≡ 7 → ⊥) → (v % 3 <= 1 && not (v == 7)) ≡ true
      fits e n = grind (arith, nat_tests)

      small : (v % 3 ≡ 0) ⊎ (2 * (v - 1) / 2 % 3 ≡ 0) → v % 3 ≤ 1
      small (inl e) = omega arith
      small (inr e) = omega (arith, (bibd_bounds v 3 2 b).block)

      seven : v ≡ 7 → IsYes (Bibd v 3 1)
      seven e = one_yes (fewer_bounds v 3 2 1 b (omega arith) (omega arith)) (record { pairs = omega arith; thirds = inr (omega arith) })

      by : (v ≡ 7) ⊎ (v ≡ 7 → ⊥) → IsYes (Bibd v 3 2)
      by (inl e) = sum_yes v 3 2 1 b (free v 2 (omega arith) t) (omega arith) (omega arith) (seven e) (seven e)
      by (inr n) = proved_alone (Bibd v 3 2) Double _ b (free v 2 (omega arith) t) refl refl (fits (small t.thirds) n)

  three_yes : in_bounds (Bibd v 3 3) ≡ true → IsTriple v 3 → IsYes (Bibd v 3 3)
  unfolding terms bibd_terms
  three_yes b t = proved_alone (Bibd v 3 3) Middle _ b (free v 3 (omega arith) t) refl refl (eq-eqb _ _ (let e : v % 2 ≡ 1 = omega (arith, t.pairs, (bibd_bounds v 3 3 b).block) in e))

  four_yes : in_bounds (Bibd v 3 4) ≡ true → IsTriple v 4 → IsYes (Bibd v 3 4)
  four_yes b t = sum_yes v 3 4 2 b (free v 4 (omega arith) t) (omega arith) (omega arith) two two
    where
      half : (v % 3 ≡ 0) ⊎ (4 * (v - 1) / 2 % 3 ≡ 0) → (v % 3 ≡ 0) ⊎ (2 * (v - 1) / 2 % 3 ≡ 0)
      half (inl e) = inl e
      half (inr e) = inr (omega arith)

      two : IsYes (Bibd v 3 2)
      two = two_yes (fewer_bounds v 3 4 2 b (omega arith) (omega arith)) (record { pairs = omega arith; thirds = half t.thirds })

  five_yes : in_bounds (Bibd v 3 5) ≡ true → IsTriple v 5 → IsYes (Bibd v 3 5)
  five_yes b t = sum_yes v 3 5 2 b (free v 5 (omega arith) t) (omega arith) (omega arith) two three
    where
      odd : (v - 1) % 2 ≡ 0
      odd = omega (arith, t.pairs)

      part : (v % 3 ≡ 0) ⊎ (5 * (v - 1) / 2 % 3 ≡ 0) → (v % 3 ≡ 0) ⊎ (2 * (v - 1) / 2 % 3 ≡ 0)
      part (inl e) = inl e
      part (inr e) = inr (omega (arith, odd))

      two : IsYes (Bibd v 3 2)
      two = two_yes (fewer_bounds v 3 5 2 b (omega arith) (omega arith)) (record { pairs = omega arith; thirds = part t.thirds })

      three : IsYes (Bibd v 3 3)
      three = three_yes (fewer_bounds v 3 5 3 b (omega arith) (omega arith)) (record { pairs = omega (arith, odd); thirds = inr (omega (arith, odd)) })

  six_yes : in_bounds (Bibd v 3 6) ≡ true → IsTriple v 6 → IsYes (Bibd v 3 6)
  unfolding terms bibd_terms
  six_yes b t = proved_alone (Bibd v 3 6) Ordered _ b (free v 6 (omega arith) t) refl refl refl

-- six more: blocks of three of l = m + 6 covers are those of m and of 6
longer_yes : (v m l : ℕ) → 1 ≤ m → l ≡ m + 6 → in_bounds (Bibd v 3 l) ≡ true → IsTriple v l → (in_bounds (Bibd v 3 m) ≡ true → IsTriple v m → IsYes (Bibd v 3 m)) → IsYes (Bibd v 3 l)
longer_yes v m l some e b t r = by (cases_lt 6 m)
  where
    more : l * (v - 1) ≡ m * (v - 1) + 6 * (v - 1)
    more = omega (arith, ap (λ n. n * (v - 1)) e)

    half : (v % 3 ≡ 0) ⊎ (l * (v - 1) / 2 % 3 ≡ 0) → (v % 3 ≡ 0) ⊎ (m * (v - 1) / 2 % 3 ≡ 0)
    half (inl e) = inl e
    half (inr e) = inr (omega (arith, more))

    fewer : IsYes (Bibd v 3 m)
    fewer = r (fewer_bounds v 3 l m b some (omega arith)) (record { pairs = omega (arith, more, t.pairs); thirds = half t.thirds })

    six : IsYes (Bibd v 3 6)
    six = six_yes v (fewer_bounds v 3 l 6 b (omega arith) (omega arith)) (record { pairs = omega arith; thirds = inr (omega arith) })

    by : (6 < m) ⊎ (m ≤ 6) → IsYes (Bibd v 3 l)
    by (inl h) = sum_yes v 3 l 6 b (free v l (omega arith) t) (omega arith) (omega arith) six (subst (λ n. IsYes (Bibd v 3 n)) (let f : m ≡ l - 6 = omega arith in f) fewer)
    by (inr h) = sum_yes v 3 l m b (free v l (omega arith) t) some (omega arith) fewer (subst (λ n. IsYes (Bibd v 3 n)) (let f : 6 ≡ l - m = omega arith in f) six)

triples_yes : (v l : ℕ) → in_bounds (Bibd v 3 l) ≡ true → criterion_of (Bibd v 3 l) ≡ None → IsYes (Bibd v 3 l)
triples_yes v l b c = by l b (triple v l c)
  where
    by : (l : ℕ) → in_bounds (Bibd v 3 l) ≡ true → IsTriple v l → IsYes (Bibd v 3 l)
    by zero b t = absurd (omega (arith, (bibd_bounds v 3 0 b).some))
    by (suc zero) b t = one_yes v b t
    by (suc (suc zero)) b t = two_yes v b t
    by (suc (suc (suc zero))) b t = three_yes v b t
    by (suc (suc (suc (suc zero)))) b t = four_yes v b t
    by (suc (suc (suc (suc (suc zero))))) b t = five_yes v b t
    by (suc (suc (suc (suc (suc (suc zero)))))) b t = six_yes v b t
    by (suc (suc (suc (suc (suc (suc (suc m))))))) b t = longer_yes v (suc m) _ (omega arith) (omega arith) b t (λ b t. by (suc m) b t)

-- ---- each of these sizes

settled_yes : (v k l : ℕ) → in_bounds (Bibd v k l) ≡ true → HasSettledSize v k → criterion_of (Bibd v k l) ≡ None → IsYes (Bibd v k l)
settled_yes v k l b (inl (inl e)) c = subst (λ k. in_bounds (Bibd v k l) ≡ true → criterion_of (Bibd v k l) ≡ None → IsYes (Bibd v k l)) (sym e) (pairs_yes v l) b c
settled_yes v k l b (inl (inr e)) c = subst (λ k. in_bounds (Bibd v k l) ≡ true → criterion_of (Bibd v k l) ≡ None → IsYes (Bibd v k l)) (sym e) (triples_yes v l) b c
settled_yes v k l b (inr (inl e)) c = subst (λ k. in_bounds (Bibd v k l) ≡ true → criterion_of (Bibd v k l) ≡ None → IsYes (Bibd v k l)) (sym e) (omit_yes v l) b c
settled_yes v k l b (inr (inr e)) c = subst (λ k. in_bounds (Bibd v k l) ≡ true → criterion_of (Bibd v k l) ≡ None → IsYes (Bibd v k l)) (sym e) (whole_yes v l) b c

pub settled : SettledLaw
unfolding judged
settled v k l b size u = by (criterion_of (Bibd v k l)) refl (sym (verdict_unfolds (Bibd v k l) b) ∙ u)
  where
    by : (o : Option Criterion) → o ≡ criterion_of (Bibd v k l)
        → ◌≡◌ {A = Verdict} (elim o [ Some c ↦ No c | None ↦ yes_or_unknown (first_step verdict (Bibd v k l)) ]) Unknown → ⊥
    by (Some c) e d = cc
    by None e d = let y : is_yes (verdict (Bibd v k l)) ≡ true = settled_yes v k l b size (sym e) in let n : is_yes (verdict (Bibd v k l)) ≡ false = ap is_yes u in cc
