-- The blocks of an orthogonal array are a transversal design.
use Rattle.std.proofs.Common.{Bool, List, ap, arith, cond, get_or, length, refl, sym, ℕ, ◌&&◌, ◌*◌, ◌<◌, ◌==◌, ◌∙◌, ◌≡◌, ◌≢◌, ◌≤◌}
use Rattle.counting.proofs.Booleans.{and_turn, bool_same, both_equal, both_equal-from, eq-eqb, eqb-true}
use Rattle.std.proofs.lemmas.Bool.Decides.{nat_tests}
use Rattle.std.specs.List.{sum_by}
use Rattle.std.specs.Prelude.{All}
use Rattle.counting.proofs.Counts.{grid_one, sum_below-const, sum_below-same}
use Rattle.counting.proofs.Lists.{All-map_of, each_all, sum_by-agree, sum_by-length, sum_by-map, sum_by-same, sum_by-sum_below, sum_by-zero}
use Rattle.counting.proofs.Ranges.{each_below, length-list_below}
use Rattle.counting.specs.Sums.{one, sum_below}
use Rattle.design_base.proofs.Canonical.{IsLoose, IsPointSet, differs_below}
use Rattle.design_base.proofs.Cover.{cover-is, holds_below, holds_below-from}
use Rattle.design_base.proofs.Places.{across-apart, across-inside, by_places, place-below, same_place}
use Rattle.design_base.specs.Arrays.{IsOa, IsRow, agree, blocks_of_rows, place, row_block}
use Rattle.design_base.specs.Blocks.{across, cover, holds}

-- which points the block of a row holds: in group c the one that stands in column c
pub holds-row_block : (k n : ℕ) (f : ℕ → ℕ) (c x : ℕ) → ((j : ℕ) → j < k → f j < n) → c < k → x < n → holds (place n c x) (row_block k n f) ≡ (f c == x)
unfolding row_block
holds-row_block k n f c x small l m = bool_same _ _
    (λ h. let r = holds_below k (place n c x) (λ j. place n j (f j)) h in
    let s : (r.0 ≡ c) × (f r.0 ≡ x) = same_place n r.0 c (f r.0) x (small r.0 r.1) m r.2 in
    eq-eqb (f c) x (ap f (sym s.0) ∙ s.1))
    (λ h. holds_below-from k (place n c x) (λ j. place n j (f j)) c l (ap (place n c) (eqb-true (f c) x h)))

-- the symbol in a column of a row
pub symbol_below : (k n : ℕ) (r : List ℕ) → IsRow k n r → (j : ℕ) → j < k → get_or r j 0 < n
symbol_below k n r row j l = row.below j 0 (omega (arith, row.size))

module _ (k n : ℕ) (R : List (List ℕ)) (rows : All (IsRow k n) R) where
  -- the blocks of rows cover two places of different columns as often as the rows agree with them
  pub cover-blocks_of_rows : (c x d y : ℕ) → c < k → d < k → x < n → y < n → cover (blocks_of_rows k n R) (place n c x) (place n d y) ≡ agree R c d x y
  unfolding blocks_of_rows agree one
  cover-blocks_of_rows c x d y a b l m = cover-is (blocks_of_rows k n R) (place n c x) (place n d y)
      ∙ sum_by-map (λ b. one (holds (place n c x) b && holds (place n d y) b)) (λ r. row_block k n (λ j. get_or r j 0)) R
      ∙ sum_by-agree (IsRow k n) (λ r. one (holds (place n c x) (row_block k n (λ j. get_or r j 0)) && holds (place n d y) (row_block k n (λ j. get_or r j 0)))) (λ r. one ((get_or r c 0 == x) && (get_or r d 0 == y))) R rows
      (λ r s. rw (holds-row_block k n (λ j. get_or r j 0) c x (symbol_below k n r s) a l, holds-row_block k n (λ j. get_or r j 0) d y (symbol_below k n r s) b m))

pub agree-is : (R : List (List ℕ)) (c d x y : ℕ) → agree R c d x y ≡ sum_by (λ r. one ((get_or r c 0 == x) && (get_or r d 0 == y))) R
unfolding agree one
agree-is R c d x y = refl

pub agree-turn : (R : List (List ℕ)) (c d x y : ℕ) → agree R c d x y ≡ agree R d c y x
unfolding agree
agree-turn R c d x y = sum_by-same _ _ R (each_all (λ r. cond ((get_or r c 0 == x) && (get_or r d 0 == y)) 1 0 ≡ cond ((get_or r d 0 == y) && (get_or r c 0 == x)) 1 0) (λ r. ap (λ b. cond b 1 0) (and_turn (get_or r c 0 == x) (get_or r d 0 == y))) R)

-- two symbols in one column
agree-apart : (R : List (List ℕ)) (c x y : ℕ) → x ≢ y → agree R c c x y ≡ 0
unfolding agree
agree-apart R c x y ne = sum_by-zero _ R (each_all (λ r. cond ((get_or r c 0 == x) && (get_or r c 0 == y)) 1 0 ≡ 0) (λ r. grind (arith, nat_tests)) R)

-- the block of a row
set_of_row : (k n : ℕ) (f : ℕ → ℕ) → ((j : ℕ) → j < k → f j < n) → IsPointSet (n * k) (λ s. s ≡ k) (row_block k n f)
unfolding row_block
set_of_row k n f small = record {
  differs = differs_below k (λ j. place n j (f j)) (λ i j l m e. let s = same_place n i j (f i) (f j) (small i (omega arith)) (small j m) e in omega arith);
  below = each_below (λ p. p < n * k) k (λ j. place n j (f j)) (λ j l. omega (arith, place-below n k j (f j) l (small j l)));
  size = length-list_below k (λ j. place n j (f j));
}

pub td_from_oa : (k n : ℕ) (R : List (List ℕ)) → 0 < n → IsOa R k n → IsLoose (blocks_of_rows k n R) (n * k) (λ s. s ≡ k) (across n)
unfolding blocks_of_rows
td_from_oa k n R pos oa = record {
  blocks = All-map_of (IsRow k n) (IsPointSet (n * k) (λ s. s ≡ k)) (λ r. row_block k n (λ j. get_or r j 0)) R oa.rows (λ r s. set_of_row k n (λ j. get_or r j 0) (symbol_below k n r s));
  pairs = λ p q l m. by_places (λ p q. cover (blocks_of_rows k n R) p q ≡ across n p q) n k pos
      (λ c d x y w b l m. cover-blocks_of_rows k n R oa.rows c x d y (omega arith) b l m ∙ oa.pairs c d x y w b l m ∙ sym (across-apart n c x d y l m (omega arith)))
      (λ c x y a l m. cover-blocks_of_rows k n R oa.rows c x c y a a (omega arith) m ∙ agree-apart R c x y (omega arith) ∙ sym (across-inside n c x y (omega arith) m))
      p q l (omega arith);
}

-- in two columns below, the pairs of symbols share the rows out among them
pub agree-all : (k n : ℕ) (R : List (List ℕ)) → All (IsRow k n) R → (i j : ℕ) → i < k → j < k → sum_below n (λ a. sum_below n (λ b. agree R i j a b)) ≡ length R
unfolding agree one
agree-all k n R rows i j l m =
    sum_below-same n (λ a. sum_below n (λ b. agree R i j a b)) (λ a. sum_by (λ r. sum_below n (λ b. one (test r a b))) R) (λ a h. sym (sum_by-sum_below (λ b r. one (test r a b)) n R))
    ∙ sym (sum_by-sum_below (λ a r. sum_below n (λ b. one (test r a b))) n R)
    ∙ sum_by-agree (IsRow k n) _ (λ r. 1) R rows (λ r s. grid_one n n (get_or r i 0) (get_or r j 0) (test r) (symbol_below k n r s i l) (symbol_below k n r s j m)
    (both_equal-from (get_or r i 0) (get_or r j 0) _ _ refl refl)
    (λ x y a b t. let h = both_equal (get_or r i 0) (get_or r j 0) x y t in (sym h.0, sym h.1)))
    ∙ sum_by-length R
  where
    test : List ℕ → ℕ → ℕ → Bool
    test r a b = (get_or r i 0 == a) && (get_or r j 0 == b)

-- the number of rows follows from the pairs
pub oa_from_pairs : (k n : ℕ) (R : List (List ℕ)) → 2 ≤ k → All (IsRow k n) R → ((i j a b : ℕ) → i < j → j < k → a < n → b < n → agree R i j a b ≡ 1) → IsOa R k n
oa_from_pairs k n R two rows pairs = record { count = count; rows = rows; pairs = pairs }
  where
    count : length R ≡ n * n
    count = sym (agree-all k n R rows 0 1 (omega arith) (omega arith))
        ∙ sum_below-same n _ (λ a. n) (λ a l. sum_below-same n _ (λ b. 1) (λ b m. pairs 0 1 a b (omega arith) (omega arith) l m) ∙ sum_below-const n 1 ∙ omega arith)
        ∙ sum_below-const n n
