-- Products of orthogonal arrays.
use Rattle.std.proofs.Common.{List, ap, ap₂, arith, get_or, length, map, slice_index, slice_set, sym, take, ℕ, ◌%◌, ◌&&◌, ◌*◌, ◌+◌, ◌/◌, ◌<◌, ◌==◌, ◌∙◌, ◌≡◌}
use Rattle.std.proofs.Math.Nat.{mod-lt}
use Rattle.std.proofs.lemmas.List.{length-map}
use Rattle.std.proofs.lemmas.List.Concat.{length-flat_map}
use Rattle.std.proofs.lemmas.Nat.{div_below, mul-add-lt}
use Rattle.std.specs.Prelude.{All}
use Rattle.counting.proofs.Booleans.{and_swap}
use Rattle.counting.proofs.Lists.{All-flat_map_of, All-map_of, one-and, sum_by-agree, sum_by-flat_map, sum_by-map, sum_by-mul, sum_by-mul-one}
use Rattle.counting.proofs.Ranges.{get_or-list_below, length-list_below}
use Rattle.counting.specs.Sums.{one}
use Rattle.design_base.proofs.Places.{place_test}
use Rattle.design_base.specs.Arrays.{IsOa, IsRow, agree, row_block}
use Rattle.transversal.proofs.Buffers.{written_next}
use Rattle.transversal.proofs.Square.{row_of_entries}
use Rattle.transversal.specs.Constructions.{product_row, product_rows, products_of}

module _ (k b : ℕ) (r s : List ℕ) where
  entry : (j : ℕ) → j < k → get_or (product_row k b r s) j 0 ≡ get_or r j 0 * b + get_or s j 0
  unfolding product_row
  entry j l = get_or-list_below k (λ j. get_or r j 0 * b + get_or s j 0) j 0 l

  pub row_of_product : (a : ℕ) → IsRow k a r → IsRow k b s → IsRow k (a * b) (product_row k b r s)
  unfolding product_row
  row_of_product a u v = row_of_entries k (a * b) (product_row k b r s) (length-list_below k (λ j. get_or r j 0 * b + get_or s j 0)) (λ j l.
      omega (arith, entry j l, mul-add-lt (get_or r j 0) b (get_or s j 0) a (u.below j 0 (omega (arith, u.size))) (v.below j 0 (omega (arith, v.size)))))

module _ (k a b : ℕ) (R S : List (List ℕ)) (first : IsOa R k a) (second : IsOa S k b) (pos : 0 < b) where
  -- a row of the product agrees where both parts do
  split : (r s : List ℕ) (i j p q : ℕ) → IsRow k b s → i < k → j < k →
      one ((get_or (product_row k b r s) i 0 == p) && (get_or (product_row k b r s) j 0 == q)) ≡ one ((get_or r i 0 == p / b) && (get_or r j 0 == q / b)) * one ((get_or s i 0 == p % b) && (get_or s j 0 == q % b))
  split r s i j p q v l m = ap₂ (λ x y. one ((x == p) && (y == q))) (entry k b r s i l) (entry k b r s j m)
      ∙ ap₂ (λ x y. one (x && y)) (place_test b (get_or r i 0) (get_or s i 0) p (v.below i 0 (omega (arith, v.size)))) (place_test b (get_or r j 0) (get_or s j 0) q (v.below j 0 (omega (arith, v.size))))
      ∙ ap one (and_swap (get_or r i 0 == p / b) (get_or s i 0 == p % b) (get_or r j 0 == q / b) (get_or s j 0 == q % b))
      ∙ one-and _ _

  rows_product : All (IsRow k (a * b)) (product_rows k b R S)
  unfolding product_rows products_of
  rows_product = All-flat_map_of (IsRow k a) (IsRow k (a * b)) (λ r. map (product_row k b r) S) R first.rows (λ r u. All-map_of (IsRow k b) (IsRow k (a * b)) (product_row k b r) S second.rows (λ s v. row_of_product k b r s a u v))

  pub product_is_oa : IsOa (product_rows k b R S) k (a * b)
  unfolding product_rows products_of agree one
  product_is_oa = record {
    count = length-flat_map (λ r. map (product_row k b r) S) R ∙ sum_by-agree (IsRow k a) _ (λ r. b * b) R first.rows (λ r u. length-map S (product_row k b r) ∙ second.count) ∙ sum_by-mul-one (b * b) R ∙ ap (λ n. b * b * n) first.count ∙ omega arith;
    rows = rows_product;
    pairs = λ i j p q l m x y. sum_by-flat_map (test i j p q) (λ r. map (product_row k b r) S) R
        ∙ sum_by-agree (IsRow k a) _ (λ r. one ((get_or r i 0 == p / b) && (get_or r j 0 == q / b))) R first.rows (λ r u.
        sum_by-map (test i j p q) (product_row k b r) S
        ∙ sum_by-agree (IsRow k b) _ _ S second.rows (λ s v. split r s i j p q v (omega arith) m)
        ∙ sum_by-mul (one ((get_or r i 0 == p / b) && (get_or r j 0 == q / b))) (λ s. one ((get_or s i 0 == p % b) && (get_or s j 0 == q % b))) S
        ∙ ap (λ n. one ((get_or r i 0 == p / b) && (get_or r j 0 == q / b)) * n) (second.pairs i j (p % b) (q % b) l m (mod-lt p pos) (mod-lt q pos))
        ∙ omega arith)
        ∙ first.pairs i j (p / b) (q / b) l m (div_below p b a pos x) (div_below q b a pos y);
  }
    where
      test : ℕ → ℕ → ℕ → ℕ → List ℕ → ℕ
      test i j p q r = one ((get_or r i 0 == p) && (get_or r j 0 == q))

-- a point more of the block of a product
pub product_written_next : (k n b j : ℕ) (r s block : List ℕ) → j < k → j < length block → take j block ≡ row_block j n (slice_index (product_row k b r s)) →
    take (j + 1) (slice_set block j (j * n + (get_or r j 0 * b + get_or s j 0))) ≡ row_block (j + 1) n (slice_index (product_row k b r s))
product_written_next k n b j r s block within l front = written_next n j (get_or r j 0 * b + get_or s j 0) (product_row k b r s) block l front (sym (entry k b r s j within))
