-- The steps of the loops that write cosets.
use Rattle.std.proofs.Common.{Bool, List, [], ap, ap₂, arith, cond, false, length, refl, slice_set, subst, suc, sym, take, true, zero, ℕ, ◌*◌, ◌++◌, ◌+◌, ◌-◌, ◌<◌, ◌==◌, ◌∙◌, ◌∷◌, ◌≡◌, ◌≤◌}
use Rattle.std.proofs.Math.Nat.{mul-le-mul_left, mul-le-mul_right}
use Rattle.std.proofs.lemmas.List.{append-nil, append_assoc, take_more_set}
use Rattle.counting.proofs.Counts.{join_below_more, join_below_none}
use Rattle.counting.proofs.Ranges.{length-list_below}
use Rattle.counting.specs.Sums.{join_below, list_below}
use Rattle.design_base.specs.Fields.{field_product, gen, has_field}
use Rattle.design_base.specs.declared.limits.TheConstants.{POINTS_MAX}
use Rattle.difference_sets.specs.Families.{coset, cosets, with_zero}
use Rattle.field_tables.proofs.GeneratorPowers.{power-add}
use Rattle.field_tables.proofs.Generators.{listed_generator}
use Rattle.field_tables.proofs.Listed.{listed_field, listed_small, order_above}
use Rattle.field_tables.specs.Powers.{power}

pub generator_small : (q : ℕ) → has_field q ≡ true → gen q < q
generator_small q listed = (listed_generator q listed).small

-- e more
pub power_by : (q : ℕ) → has_field q ≡ true → (e i j : ℕ) →
    power (field_product q) (gen q) (i + e * (j + 1)) ≡ field_product q (power (field_product q) (gen q) (i + e * j)) (power (field_product q) (gen q) e)
power_by q listed e i j =
    ap (power (field_product q) (gen q)) (let s : i + e * (j + 1) ≡ i + e * j + e = omega arith in s)
    ∙ power-add q _ (field_product q) (listed_field q listed) (gen q) (listed_generator q listed) (i + e * j) e

-- ---- a row: 0 where z is 1, and then the elements so far
zero_append : (z : ℕ) (xs ys : List ℕ) → with_zero z xs ++ ys ≡ with_zero z (xs ++ ys)
zero_append z xs ys = by (z == 1)
  where
    by : (b : Bool) → cond b (0 ∷ xs) xs ++ ys ≡ cond b (0 ∷ (xs ++ ys)) (xs ++ ys)
    by true = refl
    by false = refl

pub row_none : (z : ℕ) (row : List ℕ) (h : ℕ → ℕ) → z ≤ 1 → take 1 row ≡ 0 ∷ [] → take (z + 0) row ≡ with_zero z (list_below 0 h)
unfolding join_below
row_none zero row h small first = refl
row_none (suc zero) row h small first = first
row_none (suc (suc z)) row h small first = absurd (omega arith)

pub row_more : (z j : ℕ) (row : List ℕ) (h : ℕ → ℕ) (x : ℕ) → z + j < length row → take (z + j) row ≡ with_zero z (list_below j h) → x ≡ h j → take (z + (j + 1)) (slice_set row (z + j) x) ≡ with_zero z (list_below (j + 1) h)
row_more z j row h x inside sofar is =
    ap (λ n. take n (slice_set row (z + j) x)) (let e : z + (j + 1) ≡ z + j + 1 = omega arith in e)
    ∙ take_more_set row (z + j) x inside ∙ ap₂ (λ front x. front ++ x ∷ []) sofar is
    ∙ zero_append z (list_below j h) (h j ∷ []) ∙ ap (with_zero z) (sym (join_below_more j (λ j. h j ∷ [])))

pub coset_length : (mul : ℕ → ℕ → ℕ) (g e f i : ℕ) → length (coset mul g e f i) ≡ f
unfolding coset
coset_length mul g e f i = length-list_below f _

-- when all its elements are written
pub coset_all : (mul : ℕ → ℕ → ℕ) (g z e f i j : ℕ) (row : List ℕ) → j ≤ f → f ≤ j → take (z + j) row ≡ with_zero z (list_below j (λ j. power mul g (i + e * j))) → take (z + f) row ≡ with_zero z (coset mul g e f i)
unfolding coset
coset_all mul g z e f i j row low high is = let done : j ≡ f = omega arith in subst (λ j. take (z + j) row ≡ with_zero z (list_below j (λ j. power mul g (i + e * j)))) done is

-- the subgroup has fewer elements than the field, and so have all rows together three times as many
pub record AreFew (q e f : ℕ) : Type 0 where
  pub some : 0 < f
  pub inside : f < q
  pub many : e < q

pub are_few : (q e f : ℕ) → 1 < q → e * f ≡ q - 1 → AreFew q e f
are_few q e zero some whole = absurd (omega (arith, whole))
are_few q zero f some whole = absurd (omega (arith, whole))
are_few q (suc e) (suc f) some whole = record {
  some = omega arith;
  inside = omega (arith, whole);
  many = omega (arith, whole);
}

pub row_inside : (q z f : ℕ) (row : List ℕ) → has_field q ≡ true → z ≤ 1 → f < q → length row ≡ POINTS_MAX → z + f ≤ length row
row_inside q z f row listed small inside size = omega (arith, small, inside, size, listed_small q listed)

pub rows_fit : (q e f z m i : ℕ) → 1 < q → e * f ≡ q - 1 → z ≤ 1 → m ≤ e → i < m → i * (f + z + 1) + (f + z + 1) ≤ 3 * q
rows_fit q e f z m i some whole small inside l =
    let all : suc i * (f + z + 1) ≤ e * (f + z + 1) = mul-le-mul_right (f + z + 1) (let h : suc i ≤ e = omega arith in h) in
    let most : e * z ≤ e * 1 = mul-le-mul_left e small in
    omega (arith, all, most, whole, (are_few q e f some whole).many)

pub ruleset steps = (append-nil, append_assoc, order_above, generator_small, join_below_none, join_below_more)
