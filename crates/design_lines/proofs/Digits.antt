-- Digits that are read from the left, and numbers that are read back from their digits.
use Rattle.std.proofs.Common.{◌≡◌, ℕ, ◌+◌, ◌-◌, ◌*◌, ◌<◌, ◌≤◌, ◌^◌, true, ◌||◌, ◌==◌, inl, inr, List, [], ◌∷◌, length, take, get_or, length-take, arith, rules, refl}
use Rattle.std.specs.Prelude.{Some, not, slice_index}
use Rattle.design_base.specs.declared.limits.TheConstants.{DIGITS_MAX}
use Rattle.design_base.specs.Limits.{HasFewDigits}
use Rattle.design_lines.specs.Words.{is_short, number_of}
use Rattle.std.specs.List.{list_all}
use Rattle.std.specs.Char.{is_ascii_digit, digit_value}
use Rattle.std.specs.Fmt.{decimal}
use Rattle.std.specs.Str.Parse.{digits_value}
use Rattle.counting.proofs.Booleans.{cases_lt, le-leb}
use Rattle.std.proofs.lemmas.Fmt.{length-decimal-le, digits_decimal, digits_value-decimal, decimal_nonempty, first_decimal, decimal_digit}
use Rattle.std.proofs.lemmas.Bool.Decides.{nat_tests}
use Rattle.std.proofs.lemmas.Int.Digits.{digits_value_more}
use Rattle.std.proofs.lemmas.List.Folds.{list_all_more}
use Rattle.std.proofs.lemmas.Str.Parse.{IsDigitsTest, IsNumeralModel, numerals_by_value, digits_value_short}

abbrev IsDigits : List ℕ → Type 0
IsDigits ds = list_all is_ascii_digit ds ≡ true

digits_test : IsDigitsTest IsDigits
digits_test = search rules

pub numerals : IsNumeralModel IsDigits (digits_value 10)
numerals = numerals_by_value IsDigits digits_test

-- the value of a digit
digit_value_of : (c : ℕ) → is_ascii_digit c ≡ true → digit_value c ≡ c - 48
digit_value_of c h = grind (arith, nat_tests)

-- these are digits, and this is what they write
pub record IsValue (ds : List ℕ) (value : ℕ) : Type 0 where
  pub digits : IsDigits ds
  pub written : value ≡ digits_value 10 ds

-- so many digits write no more
pub value_below : (ds : List ℕ) (most value : ℕ) → IsValue ds value → length ds ≤ most → value < 10 ^ most
value_below ds most value h few = rw h.written (digits_value_short numerals ds most h.digits few)

pub value_small : (ds : List ℕ) (i value : ℕ) → IsValue (take i ds) value → value < 10 ^ length ds
value_small ds i value h = value_below (take i ds) (length ds) value h (omega (arith, length-take i ds))

-- one more digit
pub value_more : (ds : List ℕ) (i value : ℕ) → i < length ds → IsValue (take i ds) value → is_ascii_digit (get_or ds i 0) ≡ true → IsValue (take (i + 1) ds) (10 * value + (get_or ds i 0 - 48))
value_more ds i value below so_far here =
    let e : digits_value 10 (take (i + 1) ds) ≡ digits_value 10 (take i ds) * 10 + digit_value (get_or ds i 0) = digits_value_more 10 ds i below in
    let d : digit_value (get_or ds i 0) ≡ get_or ds i 0 - 48 = digit_value_of (get_or ds i 0) here in
    record { digits = rw (list_all_more is_ascii_digit ds i 0 below, so_far.digits, here) refl; written = omega (arith, e, d, so_far.written) }

-- eight digits at most stand before the ninth
pub value_room : (ds : List ℕ) (i value : ℕ) → i < length ds → length ds ≤ 9 → IsValue (take i ds) value → value < 10 ^ 8
value_room ds i value below short so_far = value_below (take i ds) 8 value so_far (omega (arith, length-take i ds))

-- a number of 16 bits has at most five digits
pub length_of_short : (n : ℕ) → n < 2 ^ 16 → length (decimal n) ≤ 5
length_of_short n h = length-decimal-le 5 n (omega arith) (omega arith) (omega arith)

-- one of 64 bits has at most twenty
pub length_of_long : (n : ℕ) → n < 2 ^ 64 → length (decimal n) ≤ 20
length_of_long n h = length-decimal-le 20 n (omega arith) (omega arith) h

-- a digit, or a first byte that is not `0`
well_begun : (n : ℕ) → n < 2 ^ 64 → (length (decimal n) == 1 || not (slice_index (decimal n) 0 == 48)) ≡ true
well_begun n h = elim (cases_lt 0 n) [
  | inl positive ↦ (let first = first_decimal n positive h in grind (arith, nat_tests))
  | inr none ↦ (let e : decimal n ≡ (48 + n) ∷ [] = decimal_digit n (omega arith) in rw e refl)
]

decimal_is_short : (n : ℕ) → HasFewDigits n → is_short (decimal n) ≡ true
decimal_is_short n h =
    let longest : length (decimal n) ≤ DIGITS_MAX = length-decimal-le DIGITS_MAX n (omega arith) h (omega arith) in
    let shortest : 1 ≤ length (decimal n) = decimal_nonempty n (omega arith) in
    let begun = well_begun n (omega arith) in
    simp (le-leb 1 (length (decimal n)) shortest, le-leb (length (decimal n)) DIGITS_MAX longest, begun)

-- a number is read back from its digits
pub number_of_decimal : (n : ℕ) → HasFewDigits n → number_of (decimal n) ≡ Some n
unfolding number_of
number_of_decimal n h =
    let digits : IsDigits (decimal n) = digits_decimal numerals n (omega arith) in
    simp (decimal_is_short n h, digits, digits_value-decimal numerals n (omega arith))
