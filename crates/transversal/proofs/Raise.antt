-- Rows of an array with c added to each symbol.
use Rattle.std.proofs.Common.{List, [], ap₂, arith, get_or, length, map, slice_index, slice_set, sym, take, ℕ, ◌&&◌, ◌*◌, ◌+◌, ◌<◌, ◌==◌, ◌∙◌, ◌∷◌, ◌≡◌, ◌≤◌, ◌⊎◌}
use Rattle.std.proofs.lemmas.Bool.Decides.{nat_tests}
use Rattle.std.proofs.lemmas.List.{get_or-map, length-map}
use Rattle.std.specs.List.{sum_by}
use Rattle.std.specs.Prelude.{All}
use Rattle.counting.proofs.Booleans.{bool_same, both_equal}
use Rattle.counting.proofs.Counts.{one-false}
use Rattle.counting.proofs.Lists.{All-map_of, sum_by-agree, sum_by-map, sum_by-none}
use Rattle.counting.specs.Sums.{one}
use Rattle.design_base.proofs.Rows.{agree-is}
use Rattle.design_base.specs.Arrays.{IsRow, agree, blocks_of_rows, row_block}
use Rattle.transversal.proofs.Buffers.{written_next, written_whole}
use Rattle.transversal.specs.Constructions.{raised}

add_test : (c x p : ℕ) → (c + x == c + p) ≡ (x == p)
add_test c x p = bool_same _ _ (λ e. grind (arith, nat_tests)) (λ e. grind (arith, nat_tests))

module _ (k h c : ℕ) (R : List (List ℕ)) (rows : All (IsRow k h) R) where
  pub raised_rows : (n : ℕ) → c + h ≤ n → All (IsRow k n) (raised c R)
  unfolding raised
  raised_rows n le = All-map_of (IsRow k h) (IsRow k n) (map (λ x. c + x)) R rows (λ r v. record {
    size = length-map r (λ x. c + x) ∙ v.size;
    below = All-map_of (λ a. a < h) (λ a. a < n) (λ x. c + x) r v.below (λ a l. omega arith);
  })

  counted : (i j p q : ℕ) → i < k → j < k → agree (raised c R) i j p q ≡ sum_by (λ r. one ((c + get_or r i 0 == p) && (c + get_or r j 0 == q))) R
  unfolding raised
  counted i j p q l m = agree-is (map (map (λ x. c + x)) R) i j p q
      ∙ sum_by-map (λ r. one ((get_or r i 0 == p) && (get_or r j 0 == q))) (map (λ x. c + x)) R
      ∙ sum_by-agree (IsRow k h) _ (λ r. one ((c + get_or r i 0 == p) && (c + get_or r j 0 == q))) R rows (λ r v.
      ap₂ (λ x y. one ((x == p) && (y == q))) (get_or-map (λ x. c + x) r i 0 0 (omega (arith, v.size))) (get_or-map (λ x. c + x) r j 0 0 (omega (arith, v.size))))

  pub raised_agree : (i j p q a b : ℕ) → i < k → j < k → c + a ≡ p → c + b ≡ q → agree (raised c R) i j p q ≡ agree R i j a b
  raised_agree i j p q a b l m e f = counted i j p q l m
      ∙ sum_by-agree (IsRow k h) _ (λ r. one ((get_or r i 0 == a) && (get_or r j 0 == b))) R rows (λ r v.
      ap₂ (λ p q. one ((c + get_or r i 0 == p) && (c + get_or r j 0 == q))) (sym e) (sym f) ∙ ap₂ (λ x y. one (x && y)) (add_test c (get_or r i 0) a) (add_test c (get_or r j 0) b))
      ∙ sym (agree-is R i j a b)

  -- a symbol that is not raised to
  pub raised_none : (i j p q : ℕ) → i < k → j < k → ((p < c) ⊎ (c + h ≤ p)) ⊎ ((q < c) ⊎ (c + h ≤ q)) → agree (raised c R) i j p q ≡ 0
  raised_none i j p q l m out = counted i j p q l m
      ∙ sum_by-none (IsRow k h) (λ r. one ((c + get_or r i 0 == p) && (c + get_or r j 0 == q))) R rows (λ r v. one-false _ (λ e.
      let f = both_equal (c + get_or r i 0) (c + get_or r j 0) p q e in
      let x : get_or r i 0 < h = v.below i 0 (omega (arith, v.size)) in
      let y : get_or r j 0 < h = v.below j 0 (omega (arith, v.size)) in
      omega (arith, f.0, f.1)))

-- ---- the block of a raised row, written over the front of a buffer
pub raised_written_next : (n c j : ℕ) (row block : List ℕ) → j < length block → j < length row → take j block ≡ row_block j n (slice_index (map (λ x. c + x) row)) →
    take (j + 1) (slice_set block j (j * n + (c + get_or row j 0))) ≡ row_block (j + 1) n (slice_index (map (λ x. c + x) row))
raised_written_next n c j row block l h front = written_next n j (c + get_or row j 0) (map (λ x. c + x) row) block l front (sym (get_or-map (λ x. c + x) row j 0 0 h))

pub raised_written : (k n c j : ℕ) (row block : List ℕ) → j ≤ k → k ≤ j → take j block ≡ row_block j n (slice_index (map (λ x. c + x) row)) → take k block ∷ [] ≡ blocks_of_rows k n (raised c (row ∷ []))
unfolding raised
raised_written k n c j row block low high front = written_whole k n j (map (λ x. c + x) row) block low high front
