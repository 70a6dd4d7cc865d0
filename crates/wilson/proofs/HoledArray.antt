-- Orthogonal arrays without one row, and without two rows that differ in every column.
use Rattle.std.proofs.Common.{List, [], ap₂, arith, cond, drop, get_or, inl, inr, length, map, refl, sym, take, ℕ, zero, suc, ◌&&◌, ◌+◌, ◌<◌, ◌==◌, ◌∙◌, ◌∷◌, ◌≡◌, ◌≢◌, ◌≤◌}
use Rattle.counting.proofs.Booleans.{bool_same, both_equal, both_equal-from, cases_eq}
use Rattle.std.proofs.lemmas.Bool.Decides.{nat_tests}
use Rattle.std.proofs.lemmas.List.Elements.{All-append, All-drop, All-tail, All-take, All-weaker}
use Rattle.std.proofs.lemmas.List.Sums.{sum_by-cons, sum_by-remove}
use Rattle.std.specs.List.{remove}
use Rattle.std.specs.Prelude.{All, nat_lt}
use Rattle.counting.proofs.Counts.{one-false, one-true}
use Rattle.counting.proofs.Lists.{All-map_of, sum_by-agree, sum_by-map}
use Rattle.counting.proofs.Ranges.{get_or-list_below, length-list_below}
use Rattle.counting.specs.Sums.{list_below, one}
use Rattle.design_base.proofs.Rows.{agree-is, symbol_below}
use Rattle.design_base.specs.Arrays.{IsOa, IsRow, agree}
use Rattle.transversal.proofs.Square.{row_of_entries}
use Rattle.wilson.proofs.Apart.{first_apart-below, first_apart-differs}
use Rattle.wilson.specs.Holes.{first_apart, holed, holed_twice, renumbered, renumbered_row, renumbered_row_twice, renumbered_twice}

-- rows of symbols below m + d with each pair once, but no symbol from m on twice: an array without d rows that differ in
-- every column
pub record IsHoled (S : List (List ℕ)) (k m d : ℕ) : Type 0 where
  pub rows : All (IsRow k (m + d)) S
  pub once : (i j a b : ℕ) → i < j → j < k → a < m + d → b < m + d → (m ≤ a → a ≢ b) → agree S i j a b ≡ 1
  pub never : (i j a : ℕ) → i < j → j < k → m ≤ a → a < m + d → agree S i j a a ≡ 0

-- an array without no row
pub array_is_holed : (k m : ℕ) (A : List (List ℕ)) → IsOa A k m → IsHoled A k m 0
array_is_holed k m A oa = record {
  rows = All-weaker (IsRow k m) (IsRow k (m + 0)) (λ r v. record { size = v.size; below = All-weaker (λ a. a < m) (λ a. a < m + 0) (λ a l. omega arith) r v.below }) A oa.rows;
  once = λ i j a b l h la lb ne. oa.pairs i j a b l h (omega arith) (omega arith);
  never = λ i j a l h low la. absurd (omega arith);
}

agree-cons : (r : List ℕ) (R : List (List ℕ)) (i j a b : ℕ) → agree (r ∷ R) i j a b ≡ one ((get_or r i 0 == a) && (get_or r j 0 == b)) + agree R i j a b
unfolding agree one
agree-cons r R i j a b = sum_by-cons (λ r. one ((get_or r i 0 == a) && (get_or r j 0 == b))) r R

-- ---- arrays with other symbols

-- in each column j the symbols below n are exchanged: x becomes `to j x`, and a was `from j a`
record IsRenaming (k n : ℕ) (to from : ℕ → ℕ → ℕ) : Type 0 where
  small : (j x : ℕ) → j < k → x < n → to j x < n
  back : (j a : ℕ) → j < k → a < n → from j a < n
  test : (j x a : ℕ) → j < k → x < n → a < n → (to j x == a) ≡ (x == from j a)

module _ (k n : ℕ) (to from : ℕ → ℕ → ℕ) (renaming : IsRenaming k n to from) where
  renamed : List ℕ → List ℕ
  renamed r = list_below k (λ j. to j (get_or r j 0))

  entry : (r : List ℕ) (j : ℕ) → j < k → get_or (renamed r) j 0 ≡ to j (get_or r j 0)
  unfolding renamed
  entry r j l = get_or-list_below k (λ j. to j (get_or r j 0)) j 0 l

  renamed_rows : (R : List (List ℕ)) → All (IsRow k n) R → All (IsRow k n) (map (λ r. list_below k (λ j. to j (get_or r j 0))) R)
  unfolding renamed
  renamed_rows R rows = All-map_of (IsRow k n) (IsRow k n) renamed R rows (λ r v. row_of_entries k n (renamed r) (length-list_below k (λ j. to j (get_or r j 0))) (λ j l.
      omega (arith, entry r j l, renaming.small j (get_or r j 0) l (symbol_below k n r v j l))))

  -- each pair stands in one row as before
  renamed_pairs : (R : List (List ℕ)) → IsOa R k n → (i j a b : ℕ) → i < j → j < k → a < n → b < n → agree (map (λ r. list_below k (λ j. to j (get_or r j 0))) R) i j a b ≡ 1
  unfolding renamed
  renamed_pairs R oa i j a b l h la lb = agree-is (map renamed R) i j a b
      ∙ sum_by-map (λ r. one ((get_or r i 0 == a) && (get_or r j 0 == b))) renamed R
      ∙ sum_by-agree (IsRow k n) _ (λ r. one ((get_or r i 0 == from i a) && (get_or r j 0 == from j b))) R oa.rows (λ r v.
      ap₂ (λ x y. one ((x == a) && (y == b))) (entry r i (omega arith)) (entry r j h)
      ∙ ap₂ (λ x y. one (x && y)) (renaming.test i (get_or r i 0) a (omega arith) (symbol_below k n r v i (omega arith)) la) (renaming.test j (get_or r j 0) b h (symbol_below k n r v j h) lb))
      ∙ sym (agree-is R i j (from i a) (from j b))
      ∙ oa.pairs i j (from i a) (from j b) l h (renaming.back i a (omega arith) la) (renaming.back j b h lb)

-- a row whose symbols all are c
agree-constant : (k c : ℕ) (r : List ℕ) (R : List (List ℕ)) (i j a b : ℕ) → i < k → j < k → ((j : ℕ) → j < k → get_or r j 0 ≡ c) → agree (r ∷ R) i j a b ≡ one ((c == a) && (c == b)) + agree R i j a b
agree-constant k c r R i j a b l h is = agree-cons r R i j a b ∙ ap₂ (λ x y. one ((x == a) && (y == b)) + agree R i j a b) (is i l) (is j h)

-- ---- one row less

-- the symbol that becomes a
symbol_back : ℕ → ℕ → ℕ → ℕ
symbol_back m f a = cond (a == m) f (cond (nat_lt a f) a (a + 1))

renumbered_small : (m f s : ℕ) → f < m + 1 → s < m + 1 → renumbered m f s < m + 1
unfolding renumbered one
renumbered_small m f s lf ls = grind (arith, nat_tests)

symbol_back_small : (m f a : ℕ) → f < m + 1 → a < m + 1 → symbol_back m f a < m + 1
unfolding symbol_back
symbol_back_small m f a lf la = grind (arith, nat_tests)

renumbered_test : (m f s a : ℕ) → f < m + 1 → s < m + 1 → a < m + 1 → (renumbered m f s == a) ≡ (s == symbol_back m f a)
unfolding renumbered symbol_back one
renumbered_test m f s a lf ls la = bool_same _ _ (λ e. grind (arith, nat_tests)) (λ e. grind (arith, nat_tests))

renumbered_first : (m f : ℕ) → renumbered m f f ≡ m
unfolding renumbered
renumbered_first m f = grind (arith, nat_tests)

module _ (k m : ℕ) (f : List ℕ) (R : List (List ℕ)) (oa : IsOa (f ∷ R) k (m + 1)) where
  first_symbol : (j : ℕ) → j < k → get_or f j 0 < m + 1
  first_symbol = symbol_below k (m + 1) f (oa.rows 0 [] (omega arith))

  renaming : IsRenaming k (m + 1) (λ j s. renumbered m (get_or f j 0) s) (λ j a. symbol_back m (get_or f j 0) a)
  renaming = record {
    small = λ j x l lx. renumbered_small m (get_or f j 0) x (first_symbol j l) lx;
    back = λ j a l la. symbol_back_small m (get_or f j 0) a (first_symbol j l) la;
    test = λ j x a l lx la. renumbered_test m (get_or f j 0) x a (first_symbol j l) lx la;
  }

  shared : (i j a b : ℕ) → i < j → j < k → a < m + 1 → b < m + 1 → one ((m == a) && (m == b)) + agree (map (renumbered_row k m f) R) i j a b ≡ 1
  unfolding renumbered_row
  shared i j a b l h la lb =
      sym (agree-constant k m (list_below k (λ j. renumbered m (get_or f j 0) (get_or f j 0))) (map (renumbered_row k m f) R) i j a b (omega arith) h (λ j l.
      get_or-list_below k (λ j. renumbered m (get_or f j 0) (get_or f j 0)) j 0 l ∙ renumbered_first m (get_or f j 0)))
      ∙ renamed_pairs k (m + 1) _ _ renaming (f ∷ R) oa i j a b l h la lb

  others : All (IsRow k (m + 1)) (map (renumbered_row k m f) R)
  unfolding renumbered_row
  others = renamed_rows k (m + 1) _ _ renaming R (All-tail (IsRow k (m + 1)) f R oa.rows)

  first_left_out : IsHoled (map (renumbered_row k m f) R) k m 1
  first_left_out = record {
    rows = others;
    once = λ i j a b l h la lb ne. omega (arith, shared i j a b l h la lb, one-false ((m == a) && (m == b)) (λ e. let g = both_equal m m a b e in ne (omega arith) (omega arith)));
    never = λ i j a l h low la. omega (arith, shared i j a a l h la la, one-true ((m == a) && (m == a)) (both_equal-from m m a a (omega arith) (omega arith)));
  }

pub holed_is : (k m : ℕ) (E : List (List ℕ)) → IsOa E k (m + 1) → IsHoled (holed k m E) k m 1
unfolding holed
holed_is k m [] oa = absurd (omega (arith, oa.count))
holed_is k m (f ∷ R) oa = first_left_out k m f R oa

-- ---- two rows less

-- the symbol that becomes a
symbol_back_twice : ℕ → ℕ → ℕ → ℕ → ℕ
symbol_back_twice m f e a = cond (a == m) f (cond (a == m + 1) e (cond (nat_lt f e)
    (cond (nat_lt a f) a (cond (nat_lt (a + 1) e) (a + 1) (a + 2)))
    (cond (nat_lt a e) a (cond (nat_lt (a + 1) f) (a + 1) (a + 2)))))

renumbered_twice_small : (m f e s : ℕ) → f ≢ e → f < m + 2 → e < m + 2 → s < m + 2 → renumbered_twice m f e s < m + 2
unfolding renumbered_twice one
renumbered_twice_small m f e s ne lf le ls = grind (arith, nat_tests)

symbol_back_twice_small : (m f e a : ℕ) → f ≢ e → f < m + 2 → e < m + 2 → a < m + 2 → symbol_back_twice m f e a < m + 2
unfolding symbol_back_twice
symbol_back_twice_small m f e a ne lf le la = grind (arith, nat_tests)

renumbered_twice_test : (m f e s a : ℕ) → f ≢ e → f < m + 2 → e < m + 2 → s < m + 2 → a < m + 2 → (renumbered_twice m f e s == a) ≡ (s == symbol_back_twice m f e a)
unfolding renumbered_twice symbol_back_twice one
renumbered_twice_test m f e s a ne lf le ls la = bool_same _ _ (λ h. grind (arith, nat_tests)) (λ h. grind (arith, nat_tests))

renumbered_twice_first : (m f e : ℕ) → renumbered_twice m f e f ≡ m
unfolding renumbered_twice
renumbered_twice_first m f e = grind (arith, nat_tests)

renumbered_twice_second : (m f e : ℕ) → f ≢ e → renumbered_twice m f e e ≡ m + 1
unfolding renumbered_twice
renumbered_twice_second m f e ne = grind (arith, nat_tests)

-- the row at place i of R is the second one
module _ (k m : ℕ) (f : List ℕ) (R : List (List ℕ)) (i : ℕ) (within : i < length R) (oa : IsOa (f ∷ R) k (m + 2)) (apart : (j : ℕ) → j < k → get_or f j 0 ≢ get_or (get_or R i []) j 0) where
  first_below : (j : ℕ) → j < k → get_or f j 0 < m + 2
  first_below = symbol_below k (m + 2) f (oa.rows 0 [] (omega arith))

  second_below : (j : ℕ) → j < k → get_or (get_or R i []) j 0 < m + 2
  second_below = symbol_below k (m + 2) (get_or R i []) (oa.rows (suc i) [] (omega arith))

  renaming_twice : IsRenaming k (m + 2) (λ j s. renumbered_twice m (get_or f j 0) (get_or (get_or R i []) j 0) s) (λ j a. symbol_back_twice m (get_or f j 0) (get_or (get_or R i []) j 0) a)
  renaming_twice = record {
    small = λ j x l lx. renumbered_twice_small m (get_or f j 0) (get_or (get_or R i []) j 0) x (apart j l) (first_below j l) (second_below j l) lx;
    back = λ j a l la. symbol_back_twice_small m (get_or f j 0) (get_or (get_or R i []) j 0) a (apart j l) (first_below j l) (second_below j l) la;
    test = λ j x a l lx la. renumbered_twice_test m (get_or f j 0) (get_or (get_or R i []) j 0) x a (apart j l) (first_below j l) (second_below j l) lx la;
  }

  new_row : List ℕ → List ℕ
  new_row r = renumbered_row_twice k m f (get_or R i []) r

  new_entry : (r : List ℕ) (j : ℕ) → j < k → get_or (new_row r) j 0 ≡ renumbered_twice m (get_or f j 0) (get_or (get_or R i []) j 0) (get_or r j 0)
  unfolding new_row renumbered_row_twice
  new_entry r j l = get_or-list_below k (λ j. renumbered_twice m (get_or f j 0) (get_or (get_or R i []) j 0) (get_or r j 0)) j 0 l

  all_once : (c d a b : ℕ) → c < d → d < k → a < m + 2 → b < m + 2 → agree (new_row f ∷ map new_row R) c d a b ≡ 1
  unfolding new_row renumbered_row_twice
  all_once c d a b l h la lb = renamed_pairs k (m + 2) _ _ renaming_twice (f ∷ R) oa c d a b l h la lb

  -- the rows of R are the second one and the others
  others_apart : (c d a b : ℕ) → agree (map new_row R) c d a b ≡ agree (new_row (get_or R i []) ∷ map new_row (remove R i)) c d a b
  others_apart c d a b = agree-is (map new_row R) c d a b ∙ sum_by-map test new_row R
      ∙ sym (sum_by-remove (λ r. test (new_row r)) R i [] within)
      ∙ omega (arith, agree-cons (new_row (get_or R i [])) (map new_row (remove R i)) c d a b, agree-is (map new_row (remove R i)) c d a b, sum_by-map test new_row (remove R i))
    where
      test : List ℕ → ℕ
      test r = one ((get_or r c 0 == a) && (get_or r d 0 == b))

  shared_twice : (c d a b : ℕ) → c < d → d < k → a < m + 2 → b < m + 2 →
      one ((m == a) && (m == b)) + (one ((m + 1 == a) && (m + 1 == b)) + agree (map new_row (remove R i)) c d a b) ≡ 1
  shared_twice c d a b l h la lb = omega (
    arith,
    all_once c d a b l h la lb,
    agree-constant k m (new_row f) (map new_row R) c d a b (omega arith) h (λ j l. new_entry f j l ∙ renumbered_twice_first m (get_or f j 0) (get_or (get_or R i []) j 0)),
    others_apart c d a b,
    agree-constant k (m + 1) (new_row (get_or R i [])) (map new_row (remove R i)) c d a b (omega arith) h
        (λ j l. new_entry (get_or R i []) j l ∙ renumbered_twice_second m (get_or f j 0) (get_or (get_or R i []) j 0) (apart j l)),
  )

  rest_rows : All (IsRow k (m + 2)) (remove R i)
  rest_rows = let rows : All (IsRow k (m + 2)) R = All-tail (IsRow k (m + 2)) f R oa.rows in
      All-append (IsRow k (m + 2)) (take i R) (drop (suc i) R) (All-take (IsRow k (m + 2)) i R rows) (All-drop (IsRow k (m + 2)) (suc i) R rows)

  rest_renumbered : All (IsRow k (m + 2)) (map new_row (remove R i))
  unfolding new_row renumbered_row_twice
  rest_renumbered = renamed_rows k (m + 2) _ _ renaming_twice (remove R i) rest_rows

  pub both_left_out : IsHoled (map (renumbered_row_twice k m f (get_or R i [])) (remove R i)) k m 2
  unfolding new_row
  both_left_out = record {
    rows = rest_renumbered;
    once = λ c d a b l h la lb ne. omega (
      arith,
      shared_twice c d a b l h la lb,
      one-false ((m == a) && (m == b)) (λ e. let g = both_equal m m a b e in ne (omega arith) (omega arith)),
      one-false ((m + 1 == a) && (m + 1 == b)) (λ e. let g = both_equal (m + 1) (m + 1) a b e in ne (omega arith) (omega arith)),
    );
    never = λ c d a l h low la. elim (cases_eq a m) [
      | inl e ↦ omega (arith, shared_twice c d a a l h la la, one-true ((m == a) && (m == a)) (both_equal-from m m a a (sym e) (sym e)))
      | inr ne ↦ omega (arith, shared_twice c d a a l h la la, one-true ((m + 1 == a) && (m + 1 == a)) (both_equal-from (m + 1) (m + 1) a a (omega arith) (omega arith)))
    ];
  }

-- the first row and one that differs from it in every column
two_left_out : (k m i : ℕ) (F : List (List ℕ)) → 0 < k → i < length F → IsOa F k (m + 2) → ((j : ℕ) → j < k → get_or (get_or F 0 []) j 0 ≢ get_or (get_or F i []) j 0) →
    IsHoled (map (renumbered_row_twice k m (get_or F 0 []) (get_or F i [])) (drop 1 (remove F i))) k m 2
two_left_out k m i [] pos l oa apart = absurd (omega arith)
two_left_out k m zero (f ∷ R) pos l oa apart = absurd (apart 0 pos refl)
two_left_out k m (suc i) (f ∷ R) pos l oa apart = both_left_out k m f R i (omega arith) oa apart

pub holed_twice_is : (k m : ℕ) (F : List (List ℕ)) → 2 ≤ k → k ≤ m + 2 → IsOa F k (m + 2) → IsHoled (holed_twice k m F) k m 2
unfolding holed_twice
holed_twice_is k m F two few oa = two_left_out k m (first_apart k F) F (omega arith) (first_apart-below k (m + 2) two (omega arith) few F oa) oa (first_apart-differs k (m + 2) two (omega arith) few F oa)
