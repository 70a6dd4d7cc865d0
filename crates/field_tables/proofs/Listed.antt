-- Each listed order is that of a field: the checker computes an inverse of each element.
use Rattle.std.proofs.Common.{Some, None, Option, ◌-◌, ◌/◌, ◌%◌, ◌^◌, ◌≡◌, ℕ, ◌<◌, ◌≤◌, true, false, Bool, refl, List, [], ◌∷◌, length, arith, inl, inr, cond, suc, zero, ap, subst, sym, ◌∙◌, Bor}
use Rattle.std.specs.Prelude.{◌==◌, ◌&&◌, ◌||◌, if◌then◌else◌, is_some, IsSome, IsSomeAnd, IfSome, ◌↔◌}
use Rattle.std.specs.Option.{option_copied}
use Rattle.counting.proofs.Booleans.{cases_lt, eqb-true, leb-true}
use Rattle.std.proofs.lemmas.Bool.Decides.{eqb_tells}
use Rattle.std.proofs.lemmas.List.{length-map}
use Rattle.counting.specs.Search.{◌<=◌, each_passes}
use Rattle.design_base.specs.Digits.{plus, times}
use Rattle.design_base.specs.Rings.{IsCommutativeRing, IsField, HasInverses}
use Rattle.design_base.specs.Fields.{Modulus, moduli, order, negated, modulus_of, sum_in, product_in, field_sum, field_product, has_field, FieldAt}
use Rattle.design_base.specs.declared.limits.TheConstants.{POINTS_MAX}
use Rattle.field_tables.specs.Tables.{field_order}
use Rattle.field_tables.proofs.Digits.{ring}
use Rattle.field_tables.proofs.Search.{first_in-each}

-- x to the power k, which is below 2 ^ n
abbrev power : (ℕ → ℕ → ℕ) → ℕ → ℕ → ℕ → ℕ
power mul x zero k = 1
power mul x (suc n) k = let rest = power mul (mul x x) n (k / 2) in (if k % 2 == 1 then mul x rest else rest)

-- each x below n but 0 has the inverse x ^ (q - 2)
abbrev powers_invert : (ℕ → ℕ → ℕ) → ℕ → ℕ → Bool
powers_invert mul q zero = true
powers_invert mul q (suc n) = (n == 0 || mul n (power mul n 8 (q - 2)) == 1) && powers_invert mul q n

-- the prime is from 2 on, the degree from 1 on, the order small enough, and each element but 0 has an inverse
abbrev is_sound : Modulus → Bool
is_sound s = (2 <= s.prime && 1 <= length s.lower) && (order s <= POINTS_MAX && powers_invert (product_in (Some s)) (order s) (order s))

moduli_sound : each_passes is_sound moduli ≡ true
unfolding moduli each_passes
moduli_sound = refl

-- the parts of a test
and_left : (b c : Bool) → (b && c) ≡ true → b ≡ true
and_left true c h = refl
and_left false c h = h

and_right : (b c : Bool) → (b && c) ≡ true → c ≡ true
and_right true c h = h
and_right false c h = absurd (let e = h in cc)

or_right : (b c : Bool) → b ≡ false → (b || c) ≡ true → c ≡ true
or_right true c h e = absurd (let g = h in cc)
or_right false c h e = e

module _ (q : ℕ) (add mul : ℕ → ℕ → ℕ) (r : IsCommutativeRing q add mul) where
  -- a power is an element
  power_below : (x n k : ℕ) → power mul x n k < q
  power_below x zero k = r.one_below
  power_below x (suc n) k = choice (k % 2 == 1) (mul x (power mul (mul x x) n (k / 2))) (power mul (mul x x) n (k / 2)) (r.products_below x (power mul (mul x x) n (k / 2))) (power_below (mul x x) n (k / 2))
    where
      choice : (b : Bool) (y z : ℕ) → y < q → z < q → cond b y z < q
      choice true y z hy hz = hy
      choice false y z hy hz = hz

  -- the tested powers are inverses
  from_powers : (n : ℕ) → powers_invert mul q n ≡ true → (x : ℕ) → 0 < x → x < n → (y : ℕ) × (y < q) × (mul x y ≡ 1)
  from_powers zero e x pos lt = absurd (omega arith)
  from_powers (suc n) e x pos lt = elim (cases_lt x n) [
    | inl before ↦ from_powers n (and_right (n == 0 || mul n (power mul n 8 (q - 2)) == 1) (powers_invert mul q n) e) x pos before
    | inr last ↦
        let same : n ≡ x = omega arith in
        let test : (n == 0 || mul n (power mul n 8 (q - 2)) == 1) ≡ true = and_left (n == 0 || mul n (power mul n 8 (q - 2)) == 1) (powers_invert mul q n) e in
        let P : ℕ → Type 0 = λ t. (t == 0 || mul t (power mul t 8 (q - 2)) == 1) ≡ true in
        (power mul x 8 (q - 2), power_below x 8 (q - 2), eqb-true (mul x (power mul x 8 (q - 2))) 1 (or_right (x == 0) (mul x (power mul x 8 (q - 2)) == 1) (not_zero x pos) (subst P same test)))
  ]
    where
      not_zero : (x : ℕ) → 0 < x → (x == 0) ≡ false
      not_zero x pos = elim (eqb_tells x 0) [ inl g ↦ absurd (let f : x ≡ 0 = g.1 in omega arith) | inr g ↦ g.0 ]

-- what is known of a listed polynomial
pub record IsModulusOf (q : ℕ) (s : Modulus) : Type 0 where
  pub whole : order s ≡ q
  pub two : 2 ≤ s.prime
  pub degree : 1 ≤ length s.lower
  pub small : q ≤ POINTS_MAX
  pub sums : field_sum q ≡ sum_in (Some s)
  pub products : field_product q ≡ product_in (Some s)
  pub field : IsField q (field_sum q) (field_product q)

-- the ring of a polynomial
modulus_ring : (s : Modulus) → 2 ≤ s.prime → 1 ≤ length s.lower → IsCommutativeRing (order s) (sum_in (Some s)) (product_in (Some s))
modulus_ring s two one = by s.lower refl one
  where
    by : (lower : List ℕ) → s.lower ≡ lower → 1 ≤ length s.lower → IsCommutativeRing (order s) (sum_in (Some s)) (product_in (Some s))
    by [] e one = absurd (omega (arith, ap length e))
    by (c ∷ cs) e one =
        let size : length (negated s) ≡ suc (length cs) = length-map s.lower (λ c. s.prime - c) ∙ ap length e in
        let degree : length s.lower ≡ suc (length cs) = ap length e in
        subst (λ d. IsCommutativeRing (s.prime ^ d) (plus s.prime d) (times s.prime d (negated s))) (sym degree) (ring s.prime (length cs) (negated s) two size)

-- from the tests
pub modulus_known : (q : ℕ) (s : Modulus) → modulus_of q ≡ Some s → IsModulusOf q s
unfolding modulus_of field_sum field_product
modulus_known q s found =
    let tests = first_in-each (λ s. order s == q) is_sound moduli s moduli_sound found in
    let inverses = powers_invert (product_in (Some s)) (order s) (order s) in
    let first : (2 <= s.prime && 1 <= length s.lower) ≡ true = and_left (2 <= s.prime && 1 <= length s.lower) (order s <= POINTS_MAX && inverses) tests.1 in
    let last : (order s <= POINTS_MAX && inverses) ≡ true = and_right (2 <= s.prime && 1 <= length s.lower) (order s <= POINTS_MAX && inverses) tests.1 in
    let whole : order s ≡ q = eqb-true (order s) q tests.0 in
    let two : 2 ≤ s.prime = leb-true 2 s.prime (and_left (2 <= s.prime) (1 <= length s.lower) first) in
    let degree : 1 ≤ length s.lower = leb-true 1 (length s.lower) (and_right (2 <= s.prime) (1 <= length s.lower) first) in
    let small : order s ≤ POINTS_MAX = leb-true (order s) POINTS_MAX (and_left (order s <= POINTS_MAX) inverses last) in
    let sums : field_sum q ≡ sum_in (Some s) = ap sum_in found in
    let products : field_product q ≡ product_in (Some s) = ap product_in found in
    let r = modulus_ring s two degree in
    let field : IsField (order s) (sum_in (Some s)) (product_in (Some s)) = record {
      ring = r;
      inverses = from_powers (order s) (sum_in (Some s)) (product_in (Some s)) r (order s) (and_right (order s <= POINTS_MAX) inverses last);
    } in
    record {
      whole = whole;
      two = two;
      degree = degree;
      small = subst (λ t. t ≤ POINTS_MAX) whole small;
      sums = sums;
      products = products;
      field = subst (λ t. IsField t (field_sum q) (field_product q)) whole (subst (λ f. IsField (order s) f (field_product q)) (sym sums) (subst (λ f. IsField (order s) (sum_in (Some s)) f) (sym products) field));
    }

-- the sums and products of a listed order make a field
pub listed_field : (q : ℕ) → has_field q ≡ true → IsField q (field_sum q) (field_product q)
listed_field q h = by (modulus_of q) refl h
  where
    by : (o : Option Modulus) → modulus_of q ≡ o → is_some o ≡ true → IsField q (field_sum q) (field_product q)
    by None e h = absurd (let g = h in cc)
    by (Some s) e h = (modulus_known q s e).field

-- a field has 0 and 1
pub order_above : (q : ℕ) → has_field q ≡ true → 1 < q
order_above q listed = (listed_field q listed).ring.one_below

-- no larger order is listed
pub listed_small : (q : ℕ) → has_field q ≡ true → q ≤ POINTS_MAX
listed_small q h = by (modulus_of q) refl h
  where
    by : (o : Option Modulus) → modulus_of q ≡ o → is_some o ≡ true → q ≤ POINTS_MAX
    by None e h = absurd (let g = h in cc)
    by (Some s) e h = (modulus_known q s e).small

pub listed_past : (q : ℕ) → POINTS_MAX < q → has_field q ≡ false
listed_past q h = by (has_field q) refl
  where
    by : (b : Bool) → has_field q ≡ b → has_field q ≡ false
    by true e = absurd (let small : q ≤ POINTS_MAX = listed_small q e in omega arith)
    by false e = e

-- to be listed and to have a field are one
pub FieldAt-listed : (q : ℕ) → has_field q ≡ true → FieldAt q
FieldAt-listed q h = by (modulus_of q) h
  where
    by : (o : Option Modulus) → is_some o ≡ true → IsSomeAnd o (λ s. HasInverses q (field_product q))
    by None e = cc
    by (Some s) e = (listed_field q h).inverses

pub listed-FieldAt : (q : ℕ) → FieldAt q → has_field q ≡ true
listed-FieldAt q h = by (modulus_of q) h
  where
    by : (o : Option Modulus) → IsSomeAnd o (λ s. HasInverses q (field_product q)) → is_some o ≡ true
    by None e = absurd e
    by (Some s) e = refl

-- a look-up that finds the listed orders finds the fields
pub found_fields : {X : Type 0} (o : Option X) (q : ℕ) → is_some o ≡ has_field q → IsSome o ↔ FieldAt q
found_fields None q e = (λ h. absurd (let f : false ≡ true = h in cc), λ h. absurd (let f : false ≡ true = e ∙ listed-FieldAt q h in cc))
found_fields (Some x) q e = (λ h. FieldAt-listed q (sym e), λ h. refl)

-- what a look-up of the order says
field_order-cases : (q : ℕ) (b : Bool) → is_some (if b then Some q else None) ≡ b
field_order-cases q true = refl
field_order-cases q false = refl

pub field_order-listed : (q : ℕ) → is_some (field_order q) ≡ has_field q
field_order-listed q = field_order-cases q (has_field q)

pub field_order-is : (q : ℕ) (r : Option (Bor ℕ)) → option_copied r ≡ field_order q → IfSome r (λ f. f.now ≡ q)
field_order-is q r e = by r (has_field q) e
  where
    by : (r : Option (Bor ℕ)) (b : Bool) → option_copied r ≡ (if b then Some q else None) → IfSome r (λ f. f.now ≡ q)
    by None b e = tt
    by (Some f) true e = cc
    by (Some f) false e = cc
