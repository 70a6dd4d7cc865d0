-- Rows and blocks: the two passages undo each other, and what is an orthogonal array on the one side is a transversal
-- design on the other.
use Rattle.std.proofs.Common.{List, [], ap, arith, get_or, length, map, sym, ℕ, ◌%◌, ◌*◌, ◌<◌, ◌∙◌, ◌≡◌, ◌≤◌, ◌↔◌}
use Rattle.std.proofs.lemmas.Grind.{same_number_lists}
use Rattle.std.proofs.lemmas.List.{ext_get_or, get_or-map, length-map}
use Rattle.std.proofs.lemmas.List.Elements.{All-from_recursion, recursion_from_All}
use Rattle.std.proofs.lemmas.Nat.{mod-mul-add}
use Rattle.std.specs.Prelude.{All}
use Rattle.counting.proofs.Ranges.{get_or-list_below, length-list_below}
use Rattle.counting.proofs.Sorting.{each-sort_by, length-sort_by, sum_by-sort_by}
use Rattle.counting.specs.Sorting.{sort_by}
use Rattle.design_base.proofs.Canonical.{cover-canonical, design_from_loose}
use Rattle.design_base.proofs.Places.{across-apart, place-below, place-rises}
use Rattle.design_base.proofs.Rows.{agree-is, cover-blocks_of_rows, oa_from_pairs, td_from_oa}
use Rattle.design_base.specs.Arrays.{IsOa, IsRow, blocks_of_rows, place, row_block, rows_of_blocks}
use Rattle.design_base.specs.Blocks.{IsTd, across}
use Rattle.design_base.specs.Canonical.{canonical, lex_le}

module _ (k n : ℕ) (R : List (List ℕ)) (rows : All (IsRow k n) R) where
  row_of_block : (m : ℕ) → m < length R → map (λ x. x % n) (row_block k n (λ j. get_or (get_or R m []) j 0)) ≡ get_or R m []
  unfolding row_block place
  row_of_block m l = same_number_lists _ _ (length-map _ _ ∙ length-list_below k _ ∙ sym s.size) (λ j h.
      let g : j < k = omega (arith, h, length-map (row_block k n (λ j. get_or r j 0)) (λ x. x % n), length-list_below k (λ j. place n j (get_or r j 0))) in
      get_or-map (λ x. x % n) (row_block k n (λ j. get_or r j 0)) j 0 0 (omega (arith, length-list_below k (λ j. place n j (get_or r j 0))))
      ∙ ap (λ x. x % n) (get_or-list_below k (λ j. place n j (get_or r j 0)) j 0 g)
      ∙ mod-mul-add j n (get_or r j 0) (s.below j 0 (omega (arith, s.size))))
    where
      r : List ℕ
      r = get_or R m []

      s : IsRow k n r
      s = rows m [] l

  -- the rows of the blocks of rows are the rows; `blocks_of_rows_of_blocks` is the other way round
  pub rows_of_blocks_of_rows : rows_of_blocks n (blocks_of_rows k n R) ≡ R
  unfolding blocks_of_rows rows_of_blocks
  rows_of_blocks_of_rows = ext_get_or [] _ _ (length-map _ _ ∙ length-map _ _) (λ m h.
      let l : m < length R = omega (arith, h, length-map (map (λ r. row_block k n (λ j. get_or r j 0)) R) (map (λ x. x % n)), length-map R (λ r. row_block k n (λ j. get_or r j 0))) in
      get_or-map (map (λ x. x % n)) (map (λ r. row_block k n (λ j. get_or r j 0)) R) m [] [] (omega (arith, length-map R (λ r. row_block k n (λ j. get_or r j 0))))
      ∙ ap (map (λ x. x % n)) (get_or-map (λ r. row_block k n (λ j. get_or r j 0)) R m [] [] l)
      ∙ row_of_block m l)

  oa_from_blocks : 2 ≤ k → IsTd (canonical (blocks_of_rows k n R)) k n → IsOa R k n
  oa_from_blocks two td = oa_from_pairs k n R two rows (λ i j a b l m p q.
      sym (cover-blocks_of_rows k n R rows i a j b (omega arith) m p q)
      ∙ sym (cover-canonical (blocks_of_rows k n R) (place n i a) (place n j b))
      ∙ td.pairs (place n i a) (place n j b) (place-rises n i j a b l p) (omega (arith, place-below n k j b m q))
      ∙ across-apart n i a j b p q (omega arith))

  -- the blocks of rows are a transversal design exactly where the rows are an orthogonal array
  pub td_iff_oa : 2 ≤ k → 0 < n → IsTd (canonical (blocks_of_rows k n R)) k n ↔ IsOa R k n
  td_iff_oa two pos = (oa_from_blocks two, λ oa. design_from_loose (n * k) (λ s. s ≡ k) (blocks_of_rows k n R) (across n) (td_from_oa k n R pos oa))

-- the rows of an orthogonal array may stand in any order
pub oa-sort_by : (k n : ℕ) (R : List (List ℕ)) → IsOa R k n → IsOa (sort_by lex_le R) k n
oa-sort_by k n R oa = record {
  count = length-sort_by lex_le R ∙ oa.count;
  rows = All-from_recursion (IsRow k n) _ (each-sort_by lex_le (IsRow k n) R (recursion_from_All (IsRow k n) R oa.rows));
  pairs = λ i j a b l m p q. agree-is (sort_by lex_le R) i j a b ∙ sum_by-sort_by lex_le _ R ∙ sym (agree-is R i j a b) ∙ oa.pairs i j a b l m p q;
}
