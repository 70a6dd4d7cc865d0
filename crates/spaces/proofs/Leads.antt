-- The first nonzero entry of a vector, and the points, for which it is 1.
use Rattle.std.proofs.Common.{List, [], ap, ap₂, arith, cond, get_or, inl, inr, length, map, refl, replicate, subst, suc, sym, true, zero, ℕ, ◌*◌, ◌+◌, ◌<◌, ◌==◌, ◌^◌, ◌∙◌, ◌∷◌, ◌≡◌, ◌≢◌, ◌⊎◌}
use Rattle.std.proofs.Math.Nat.{pos_of_ne-zero, pow-suc, pow-zero}
use Rattle.counting.proofs.Booleans.{cases_eq, cases_order, eq-eqb, eqb-true, false≢true, ne_eqb, or_cases}
use Rattle.std.proofs.lemmas.List.Elements.{All-from_recursion}
use Rattle.std.proofs.lemmas.Nat.{div-mul-add, mod-mul-add}
use Rattle.std.specs.List.{AllByRecursion}
use Rattle.std.specs.Prelude.{Contains, filter}
use Rattle.counting.proofs.ButOne.{sum_below-groups}
use Rattle.counting.proofs.Totals.{length_filtered}
use Rattle.counting.proofs.Counts.{count_equal, one-false, one-true, sum_below-add, sum_below-const, sum_below-mul, sum_below-same}
use Rattle.counting.proofs.Lists.{all_filter}
use Rattle.counting.proofs.Ranges.{each_below}
use Rattle.counting.specs.Sums.{list_below, one, sum_below}
use Rattle.design_base.proofs.Canonical.{Differs, differs_below}
use Rattle.design_base.proofs.Points.{differs_filter, holds-filter}
use Rattle.design_base.proofs.Cover.{holds-cons, holds-none, holds_below-from}
use Rattle.design_base.specs.Blocks.{holds}
use Rattle.design_base.specs.Digits.{digits, number}
use Rattle.design_base.specs.Rings.{IsField}
use Rattle.field_tables.proofs.AnyField.{field_laws}
use Rattle.field_tables.proofs.Numbers.{digits_below, number-digits}
use Rattle.spaces.proofs.Span.{IsLead}
use Rattle.spaces.proofs.VectorSpaces.{D_multiple, D_zero}
use Rattle.design_base.specs.Geometries.{point_count}
use Rattle.spaces.specs.Points.{first_nonzero, lead, points, points_below}
use Rattle.spaces.specs.Vectors.{multiple}

-- ---- the first nonzero entry
skip : (x y : ℕ) → x ≡ 0 → cond (x == 0) y x ≡ y
skip x y e = ap (λ t. cond t y x) (eq-eqb x 0 e)

keep : (x y : ℕ) → x ≢ 0 → cond (x == 0) y x ≡ x
keep x y ne = ap (λ t. cond t y x) (ne_eqb x 0 ne)

first_zeros : (n : ℕ) → first_nonzero (replicate n 0) ≡ 0
first_zeros zero = refl
first_zeros (suc n) = first_zeros n

first_below : (q : ℕ) (x : List ℕ) → 0 < q → AllByRecursion (λ t. t < q) x → first_nonzero x < q
first_below q [] pos h = pos
first_below q (x ∷ xs) pos h = elim (cases_eq x 0) [
  | inl e ↦ subst (λ t. t < q) (sym (skip x (first_nonzero xs) e)) (first_below q xs pos h.1)
  | inr e ↦ subst (λ t. t < q) (sym (keep x (first_nonzero xs) e)) h.0
]

all_zero : (q : ℕ) (x : List ℕ) → first_nonzero x ≡ 0 → number q x ≡ 0
all_zero q [] h = refl
all_zero q (x ∷ xs) h = elim (cases_eq x 0) [
  | inl e ↦ (let rest : number q xs ≡ 0 = all_zero q xs (sym (skip x (first_nonzero xs) e) ∙ h) in omega (arith, e, ap (λ t. q * t) rest))
  | inr e ↦ absurd (e (sym (keep x (first_nonzero xs) e) ∙ h))
]

contains_from_holds : (x : ℕ) (b : List ℕ) → holds x b ≡ true → Contains b x
contains_from_holds x [] h = absurd (false≢true (sym (holds-none x) ∙ h))
contains_from_holds x (y ∷ b) h = elim (or_cases (y == x) (holds x b) (sym (holds-cons x y b) ∙ h)) [
  | inl e ↦ (0, omega arith, eqb-true y x e)
  | inr e ↦ let c = contains_from_holds x b e in (suc c.0, omega (arith, c.1), c.2)
]

neither : {A B : Type 0} → A ⊎ B → (A → ⊥) → (B → ⊥) → ⊥
neither (inl a) f g = f a
neither (inr b) f g = g b

module _ (q : ℕ) (add mul : ℕ → ℕ → ℕ) (field : IsField q add mul) where
  open field_laws q add mul field use {mul-zero, no_zero_divisors, zero-mul, zero_below}

  first_multiple : (c : ℕ) → c < q → c ≢ 0 → (x : List ℕ) → AllByRecursion (λ t. t < q) x → first_nonzero (map (mul c) x) ≡ mul c (first_nonzero x)
  first_multiple c hc ne [] h = sym (mul-zero c)
  first_multiple c hc ne (x ∷ xs) h = elim (cases_eq x 0) [
    | inl e ↦ skip (mul c x) (first_nonzero (map (mul c) xs)) (ap (mul c) e ∙ mul-zero c) ∙ first_multiple c hc ne xs h.1 ∙ ap (mul c) (sym (skip x (first_nonzero xs) e))
    | inr e ↦ keep (mul c x) (first_nonzero (map (mul c) xs)) (λ z. neither (no_zero_divisors c x hc h.0 z) ne e) ∙ ap (mul c) (sym (keep x (first_nonzero xs) e))
  ]

  first_none : (x : List ℕ) → first_nonzero (map (mul 0) x) ≡ 0
  first_none [] = refl
  first_none (x ∷ xs) = skip (mul 0 x) (first_nonzero (map (mul 0) xs)) (zero-mul x) ∙ first_none xs

  pub is_lead : (n : ℕ) → IsLead q (q ^ n) mul (multiple mul q n) (lead q n)
  unfolding lead
  is_lead n = record {
    lead_below = λ z. first_below q (digits q n z) zero_below (digits_below q zero_below n z);
    lead-scale = λ c z hc. ap first_nonzero (D_multiple q add mul field.ring n c z) ∙ elim (cases_eq c 0) [
      | inl e ↦ ap (λ t. first_nonzero (map (mul t) (digits q n z))) e ∙ first_none (digits q n z)
          ∙ sym (ap (λ t. mul t (first_nonzero (digits q n z))) e ∙ zero-mul (first_nonzero (digits q n z)))
      | inr e ↦ first_multiple c hc e (digits q n z) (digits_below q zero_below n z)
    ];
    lead_zero = ap first_nonzero (D_zero q add mul field.ring n) ∙ first_zeros n;
    zero_from_lead = λ z h e. sym (number-digits q zero_below n z h) ∙ all_zero q (digits q n z) e;
  }

  pub lead_positive : (n x : ℕ) → 0 < x → x < q ^ n → 0 < lead q n x
  lead_positive n x pos l = pos_of_ne-zero (λ e. let f : x ≡ 0 = (is_lead n).zero_from_lead x l e in absurd (omega arith))

  -- a multiple by the inverse of the first nonzero entry is a point
  pub lead_one : (n x c : ℕ) → c < q → mul (lead q n x) c ≡ 1 → lead q n (multiple mul q n c x) ≡ 1
  lead_one n x c l e = (is_lead n).lead-scale c x l ∙ field.ring.products_commute c (lead q n x) ∙ e

-- ---- the points
pub contains_point : (q n x : ℕ) → x < q ^ n → lead q n x ≡ 1 → Contains (points q n) x
unfolding points points_below
contains_point q n x l e = contains_from_holds x (filter (λ x. lead q n x == 1) (list_below (q ^ n) (λ x. x))) (holds-filter (λ x. lead q n x == 1) x (list_below (q ^ n) (λ x. x)) (eq-eqb (lead q n x) 1 e) ∙ holds_below-from (q ^ n) x (λ x. x) x l refl)

pub each_point : (q n : ℕ) → AllByRecursion (λ x. (x < q ^ n) × (lead q n x ≡ 1)) (points q n)
unfolding points points_below
each_point q n = all_filter (λ x. x < q ^ n) (λ x. (x < q ^ n) × (lead q n x ≡ 1)) (λ x. lead q n x == 1) (λ x l e. (l, eqb-true (lead q n x) 1 e))
    (list_below (q ^ n) (λ x. x)) (each_below (λ x. x < q ^ n) (q ^ n) (λ x. x) (λ i l. l))

points_differ : (q n : ℕ) → Differs (points q n)
unfolding points points_below
points_differ q n = differs_filter (λ x. lead q n x == 1) (list_below (q ^ n) (λ x. x)) (differs_below (q ^ n) (λ x. x) (λ i j l m e. absurd (omega arith)))

differs_at : (b : List ℕ) (i j : ℕ) → Differs b → i < j → j < length b → get_or b i 0 ≢ get_or b j 0
differs_at [] i j d l m e = absurd (omega arith)
differs_at (x ∷ b) i zero d l m e = absurd (omega arith)
differs_at (x ∷ b) zero (suc j) d l m e = All-from_recursion (λ y. x ≢ y) b d.0 j 0 (omega arith) e
differs_at (x ∷ b) (suc i) (suc j) d l m e = differs_at b i j d.1 (omega arith) (omega arith) e

pub points_apart : (q n i j : ℕ) → i < length (points q n) → j < length (points q n) → get_or (points q n) i 0 ≡ get_or (points q n) j 0 → i ≡ j
points_apart q n i j hi hj e = elim (cases_order i j) [
  | inl same ↦ same
  | inr (inl l) ↦ absurd (differs_at (points q n) i j (points_differ q n) l hj e)
  | inr (inr l) ↦ absurd (differs_at (points q n) j i (points_differ q n) l hi (sym e))
]

-- ---- how many points there are
-- the vectors with a first entry i: they are points where i is 1, and where it is 0 and the rest is a point
test_split : (i x : ℕ) → one (cond (i == 0) x i == 1) ≡ one (x == 1) * one (0 == i) + one (1 == i)
test_split i x = elim (cases_eq i 0) [
  | inl e ↦ omega (arith, ap (λ t. one (t == 1)) (skip i x e), ap (λ t. one (x == 1) * t) (one-true (0 == i) (eq-eqb 0 i (sym e))), one-false (1 == i) (λ f. absurd (omega (arith, eqb-true 1 i f))))
  | inr ne ↦ omega (
    arith,
    ap (λ t. one (t == 1)) (keep i x ne),
    ap (λ t. one (x == 1) * t) (one-false (0 == i) (λ f. ne (sym (eqb-true 0 i f)))),
    ap one (turn i),
  )
]
  where
    turn : (i : ℕ) → (i == 1) ≡ (1 == i)
    turn i = elim (cases_eq i 1) [ inl e ↦ eq-eqb i 1 e ∙ sym (eq-eqb 1 i (sym e)) | inr e ↦ ne_eqb i 1 e ∙ sym (ne_eqb 1 i (λ f. e (sym f))) ]

abbrev counted : ℕ → ℕ → ℕ
counted q n = sum_below (q ^ n) (λ x. one (lead q n x == 1))

module _ (q : ℕ) (two : 1 < q) where
  one_row : (n r : ℕ) → sum_below q (λ i. one (lead q (suc n) (r * q + i) == 1)) ≡ one (lead q n r == 1) + 1
  unfolding lead
  one_row n r =
      sum_below-same q _ (λ i. one (lead q n r == 1) * one (0 == i) + one (1 == i)) (λ i l.
      ap₂ (λ s t. one (cond (s == 0) (first_nonzero (digits q n t)) s == 1)) (mod-mul-add r q i l) (div-mul-add r q i l) ∙ test_split i (lead q n r))
      ∙ sum_below-add q (λ i. one (lead q n r == 1) * one (0 == i)) (λ i. one (1 == i))
      ∙ omega (arith, sum_below-mul q (one (lead q n r == 1)) (λ i. one (0 == i)), ap (λ t. one (lead q n r == 1) * t) (count_equal q 0 (omega arith)), count_equal q 1 two)

  counted_more : (n : ℕ) → counted q (suc n) ≡ counted q n + q ^ n
  counted_more n =
      ap (λ t. sum_below t (λ x. one (lead q (suc n) x == 1))) (pow-suc q n)
      ∙ sum_below-groups (q ^ n) q (λ x. one (lead q (suc n) x == 1))
      ∙ sum_below-same (q ^ n) _ (λ r. one (lead q n r == 1) + 1) (λ r l. one_row n r)
      ∙ sum_below-add (q ^ n) (λ r. one (lead q n r == 1)) (λ r. 1)
      ∙ omega (arith, sum_below-const (q ^ n) 1)

  counted_is : (n : ℕ) → counted q n ≡ sum_below n (λ i. q ^ i)
  unfolding sum_below lead
  counted_is zero = ap (λ t. sum_below t (λ x. one (lead q 0 x == 1))) (pow-zero q) ∙ none
    where
      none : 0 + one (0 == 1) ≡ 0
      none = omega (arith, one-false (0 == 1) (λ e. absurd (let f = eqb-true 0 1 e in omega arith)))
  counted_is (suc n) = counted_more n ∙ ap (λ t. t + q ^ n) (counted_is n)

  pub length-points : (d : ℕ) → length (points q (d + 1)) ≡ point_count q d
  unfolding points points_below point_count
  length-points d = length_filtered (λ x. lead q (d + 1) x == 1) (q ^ (d + 1)) ∙ counted_is (d + 1)
