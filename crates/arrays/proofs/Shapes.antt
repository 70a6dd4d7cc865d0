-- The first bad line, and the shape of lines none of which is bad.
use Rattle.std.proofs.Common.{Bool, List, None, Option, Some, [], ap, arith, false, get_or, length, min, not, refl, subst, sym, take, true, ℕ, ◌*◌, ◌+◌, ◌<◌, ◌==◌, ◌∙◌, ◌≡◌, ◌≤◌}
use Rattle.std.proofs.Math.Seq.{take-length}
use Rattle.counting.proofs.Booleans.{and_from, both, eq-eqb, eqb-true, lt-ltb, ltb-true}
use Rattle.std.proofs.lemmas.Bool.Decides.{nat_tests}
use Rattle.std.proofs.lemmas.List.{get_or-take, get_or_default, length-take}
use Rattle.std.proofs.lemmas.List.Sums.{AllPass-from_list_all, fails_before_first, list_all-from_AllPass, position_or_len_is}
use Rattle.std.specs.List.{list_all, position}
use Rattle.std.specs.Option.{option_or}
use Rattle.std.specs.Prelude.{All, if◌then◌else◌, nat_lt, option_map}
use Rattle.design_base.specs.Arrays.{IsRow}
use Rattle.arrays.specs.Lines.{bad_count, bad_line, bad_row, is_row}

-- the place of the first bad row, where there is one and where there is none
place_found : {X : Type 0} (p : X → Bool) (xs : List X) (i : ℕ) (d : X) → i < length xs → ((j : ℕ) → j < i → p (get_or xs j d) ≡ false) → p (get_or xs i d) ≡ true → position p xs ≡ Some i
place_found p xs i d l before here = let e = position_or_len_is p xs i d (omega arith) before (λ h. here) in rw e (grind (arith, nat_tests))

place_none : {X : Type 0} (p : X → Bool) (xs : List X) (d : X) → ((j : ℕ) → j < length xs → p (get_or xs j d) ≡ false) → position p xs ≡ None
place_none p xs d before = let e = position_or_len_is p xs (length xs) d (omega arith) before (λ h. absurd (omega arith)) in rw e (grind (arith, nat_tests))

none_place : {X : Type 0} (p : X → Bool) (xs : List X) (j : ℕ) (d : X) → position p xs ≡ None → j < length xs → p (get_or xs j d) ≡ false
none_place p xs j d none l = fails_before_first p xs j d (grind (arith, nat_tests))

no : (b : Bool) → b ≡ true → not b ≡ false
no b e = ap not e

yes : (b : Bool) → b ≡ false → not b ≡ true
yes b e = ap not e

pub bad_row_found : (k n wanted : ℕ) (L : List (List ℕ)) (i : ℕ) → i < wanted → i < length L → ((j : ℕ) → j < i → is_row k n (get_or L j []) ≡ true) → is_row k n (get_or L i []) ≡ false → bad_row k n (take wanted L) ≡ Some (i + 1)
unfolding bad_row
bad_row_found k n wanted L i l h before bad = ap (option_map (λ i. i + 1)) (place_found (λ line. not (is_row k n line)) (take wanted L) i [] (omega (arith, length-take wanted L))
    (λ j g. no _ (ap (is_row k n) (get_or-take wanted L j [] (omega arith)) ∙ before j g))
    (yes _ (ap (is_row k n) (get_or-take wanted L i [] l) ∙ bad)))

pub bad_row_none : (k n wanted : ℕ) (L : List (List ℕ)) (i : ℕ) → min (length L) wanted ≤ i → ((j : ℕ) → j < i → is_row k n (get_or L j []) ≡ true) → bad_row k n (take wanted L) ≡ None
unfolding bad_row
bad_row_none k n wanted L i l before = ap (option_map (λ i. i + 1)) (place_none (λ line. not (is_row k n line)) (take wanted L) []
    (λ j g. no _ (ap (is_row k n) (get_or-take wanted L j [] (omega (arith, length-take wanted L))) ∙ before j (omega (arith, length-take wanted L)))))

-- a line of the right shape
row_from_test : (k n : ℕ) (line : List ℕ) → is_row k n line ≡ true → IsRow k n line
unfolding is_row
row_from_test k n line e = let t = both (length line == k) (list_all (λ a. nat_lt a n) line) e in record {
  size = eqb-true (length line) k t.0;
  below = λ i d l. ltb-true (get_or line i d) n (AllPass-from_list_all (λ a. nat_lt a n) line t.1 i d l);
}

test_is : (k n : ℕ) (L : List (List ℕ)) (j : ℕ) → bad_row k n L ≡ None → j < length L → is_row k n (get_or L j []) ≡ true
unfolding bad_row
test_is k n L j none l = let f = none_place (λ line. not (is_row k n line)) L j [] in grind (arith, nat_tests)

pub rows_from_none : (k n : ℕ) (L : List (List ℕ)) → bad_row k n L ≡ None → All (IsRow k n) L
rows_from_none k n L none = λ i d l. row_from_test k n (get_or L i d) (ap (is_row k n) (get_or_default L i d [] l) ∙ test_is k n L i none l)

test_from_row : (k n : ℕ) (line : List ℕ) → IsRow k n line → is_row k n line ≡ true
unfolding is_row
test_from_row k n line row =
    and_from _ _ (eq-eqb (length line) k row.size) (list_all-from_AllPass (λ a. nat_lt a n) line (λ i d l. lt-ltb (get_or line i d) n (row.below i d l)))

pub none_from_rows : (k n : ℕ) (L : List (List ℕ)) → All (IsRow k n) L → bad_row k n L ≡ None
none_from_rows k n L rows =
    subst (λ lines. bad_row k n lines ≡ None) (take-length L) (bad_row_none k n (length L) L (length L) (omega arith) (λ j l. test_from_row k n (get_or L j []) (rows j [] l)))

-- squares none of whose lines is bad
neither : (a b : Option ℕ) → option_or a b ≡ None → (a ≡ None) × (b ≡ None)
neither None b e = (refl, e)
neither (Some i) b e = cc

count_from_none : (wanted count : ℕ) → bad_count wanted count ≡ None → count ≡ wanted
unfolding bad_count
count_from_none wanted count e = by_test (count == wanted) refl e
  where
    by_test : (t : Bool) → count == wanted ≡ t → (if t then None else Some (min count wanted + 1)) ≡ None → count ≡ wanted
    by_test true h g = eqb-true count wanted h
    by_test false h g = cc

pub none_from_squares : (m n : ℕ) (L : List (List ℕ)) → length L ≡ m * n → All (IsRow n n) L → bad_line m n L ≡ None
unfolding bad_line bad_count
none_from_squares m n L count rows =
    rw (ap (λ wanted. take wanted L) (sym count) ∙ take-length L, none_from_rows n n L rows, is_equal (length L) (m * n) count) refl
  where
    is_equal : (a b : ℕ) → a ≡ b → (a == b) ≡ true
    is_equal a b e = grind (arith, nat_tests)

pub squares_from_none : (m n : ℕ) (L : List (List ℕ)) → bad_line m n L ≡ None → (length L ≡ m * n) × All (IsRow n n) L
unfolding bad_line
squares_from_none m n L none =
    let parts = neither (bad_row n n (take (m * n) L)) (bad_count (m * n) (length L)) none in
    let count = count_from_none (m * n) (length L) parts.1 in
    (count, rows_from_none n n L (ap (bad_row n n) (sym (ap (λ wanted. take wanted L) (sym count) ∙ take-length L)) ∙ parts.0))
