-- Blocks are disjoint exactly where their rows differ in every column.
use Rattle.std.proofs.Common.{Bool, List, Option, Some, [], ap, arith, false, get_or, length, map, not, refl, subst, suc, sym, true, zero, ℕ, ◌+◌, ◌<◌, ◌==◌, ◌||◌, ◌∙◌, ◌∷◌, ◌≡◌, ◌≤◌}
use Rattle.std.proofs.lemmas.Bool.Decides.{nat_tests}
use Rattle.std.proofs.lemmas.List.{length-map}
use Rattle.std.proofs.lemmas.List.Elements.{recursion_from_All}
use Rattle.std.proofs.lemmas.List.Folds.{list_any-append}
use Rattle.std.specs.List.{AllByRecursion, list_any, position_or_len}
use Rattle.std.proofs.lemmas.Option.{get_or_from_slice_get}
use Rattle.std.specs.Prelude.{IsSome, position, slice_get}
use Rattle.counting.proofs.Counts.{sum_below-same}
use Rattle.counting.specs.Sums.{join_below, list_below, one, sum_below}
use Rattle.design_base.proofs.Groups.{blocks_of_rows_of_blocks, oa_from_td}
use Rattle.design_base.proofs.Rows.{holds-row_block}
use Rattle.design_base.specs.Arrays.{IsOa, IsRow, blocks_of_rows, place, row_block, rows_of_blocks}
use Rattle.design_base.specs.Blocks.{IsTd, holds}
use Rattle.wilson.proofs.Apart.{first_apart-below}
use Rattle.wilson.specs.Disjoint.{are_disjoint, disjoint_from_first}
use Rattle.wilson.specs.Holes.{agreements, first_apart}

one_more : (s : ℕ) (b : Bool) → (not (s == 0) || (b || false)) ≡ not (s + one b == 0)
unfolding one
one_more s true = grind (arith, nat_tests)
one_more s false = grind (arith, nat_tests)

-- some element of a list passes where the count is not 0
any_below : {X : Type 0} (k : ℕ) (p : X → Bool) (f : ℕ → X) → list_any p (list_below k f) ≡ not (sum_below k (λ j. one (p (f j))) == 0)
unfolding join_below sum_below
any_below zero p f = refl
any_below (suc k) p f = list_any-append p (list_below k f) (f k ∷ []) ∙ ap (λ b. b || (p (f k) || false)) (any_below k p f) ∙ one_more (sum_below k (λ j. one (p (f j)))) (p (f k))

any_of_row : (k n : ℕ) (p : ℕ → Bool) (f : ℕ → ℕ) → list_any p (row_block k n f) ≡ not (sum_below k (λ j. one (p (place n j (f j)))) == 0)
unfolding row_block
any_of_row k n p f = any_below k p (λ j. place n j (f j))

not_not : (b : Bool) → not (not b) ≡ b
not_not true = refl
not_not false = refl

disjoint_rows : (k n : ℕ) (f r : List ℕ) → IsRow k n f → IsRow k n r → are_disjoint (row_block k n (λ j. get_or f j 0)) (row_block k n (λ j. get_or r j 0)) ≡ (agreements k f r == 0)
unfolding are_disjoint agreements
disjoint_rows k n f r u v = ap not (any_of_row k n (λ x. holds x (row_block k n (λ j. get_or r j 0))) (λ j. get_or f j 0)) ∙ not_not _ ∙ ap (λ s. s == 0) (sum_below-same k _ _ (λ j l. ap one
    (holds-row_block k n (λ j. get_or r j 0) j (get_or f j 0) (λ j l. v.below j 0 (omega (arith, v.size))) l (u.below j 0 (omega (arith, u.size))))))

-- the same place in a list and in its images
same_first : {X Y : Type 0} (p : Y → Bool) (q : X → Bool) (g : X → Y) (xs : List X) → AllByRecursion (λ x. p (g x) ≡ q x) xs → position_or_len p (map g xs) ≡ position_or_len q xs
same_first p q g [] h = refl
same_first p q g (x ∷ xs) h = let e = same_first p q g xs h.1 in rw (h.0, e) refl

position_is : {X : Type 0} (p : X → Bool) (xs : List X) → position_or_len p xs < length xs → position p xs ≡ Some (position_or_len p xs)
position_is p xs l = grind (arith, nat_tests)

length-blocks_of_rows : (k n : ℕ) (R : List (List ℕ)) → length (blocks_of_rows k n R) ≡ length R
unfolding blocks_of_rows
length-blocks_of_rows k n R = length-map R (λ row. row_block k n (λ j. get_or row j 0))

module _ (k n : ℕ) (B : List (List ℕ)) (two : 2 ≤ k) (big : 2 ≤ n) (most : k ≤ n) (td : IsTd B k n) where
  array : IsOa (rows_of_blocks n B) k n
  array = oa_from_td k n B (omega arith) td two

  first_block : (R : List (List ℕ)) → 0 < length R → get_or (blocks_of_rows k n R) 0 [] ≡ row_block k n (λ j. get_or (get_or R 0 []) j 0)
  unfolding blocks_of_rows
  first_block [] l = absurd (omega arith)
  first_block (r ∷ R) l = refl

  places_of_rows : (R : List (List ℕ)) → IsOa R k n → position_or_len (are_disjoint (get_or (blocks_of_rows k n R) 0 [])) (blocks_of_rows k n R) ≡ first_apart k R
  unfolding blocks_of_rows first_apart
  places_of_rows R oa = same_first (are_disjoint (get_or (map (λ row. row_block k n (λ j. get_or row j 0)) R) 0 [])) (λ r. agreements k (get_or R 0 []) r == 0) (λ row. row_block k n (λ j. get_or row j 0)) R
      (recursion_from_All _ R (λ i d l. let some : 0 < length R = omega arith in
      ap (λ b. are_disjoint b (row_block k n (λ j. get_or (get_or R i d) j 0))) (first_block R some) ∙ disjoint_rows k n (get_or R 0 []) (get_or R i d) (oa.rows 0 [] some) (oa.rows i d l)))

  position_in_rows : (R : List (List ℕ)) → IsOa R k n → position (are_disjoint (get_or (blocks_of_rows k n R) 0 [])) (blocks_of_rows k n R) ≡ Some (first_apart k R)
  position_in_rows R oa =
      position_is (are_disjoint (get_or (blocks_of_rows k n R) 0 [])) (blocks_of_rows k n R) (omega (arith, places_of_rows R oa, first_apart-below k n two big most R oa, length-blocks_of_rows k n R))
      ∙ ap Some (places_of_rows R oa)

  -- the first block that is disjoint from the first one is that of the first row that differs from the first one everywhere
  pub disjoint_block : disjoint_from_first B ≡ Some (first_apart k (rows_of_blocks n B))
  unfolding disjoint_from_first
  disjoint_block = subst (λ C. position (are_disjoint (get_or C 0 [])) C ≡ Some (first_apart k (rows_of_blocks n B))) (blocks_of_rows_of_blocks k n B (omega arith) td) (position_in_rows (rows_of_blocks n B) array)

  pub disjoint_block_found : IsSome (disjoint_from_first B)
  disjoint_block_found = rw disjoint_block refl

pub disjoint_from_row : (B : List (List ℕ)) (first : List ℕ) (place : Option ℕ) → slice_get B 0 ≡ Some first → place ≡ position (are_disjoint first) B → place ≡ disjoint_from_first B
unfolding disjoint_from_first
disjoint_from_row B first place e is = is ∙ ap (λ b. position (are_disjoint b) B) (sym (get_or_from_slice_get B 0 first [] e))
