-- The array of one row.
use Rattle.std.proofs.Common.{List, [], ap, arith, replicate, subst, sym, take, ℕ, ◌<◌, ◌∙◌, ◌∷◌, ◌≡◌, ◌≤◌}
use Rattle.std.proofs.lemmas.Grind.{same_number_lists}
use Rattle.std.proofs.lemmas.List.{get_or-replicate, length-replicate, take-replicate}
use Rattle.counting.proofs.Ranges.{get_or-list_below, length-list_below}
use Rattle.counting.specs.Sums.{join_below, list_below}
use Rattle.design_base.specs.Arrays.{IsOa, IsRow, blocks_of_rows}
use Rattle.design_base.specs.declared.limits.TheConstants.{TD_K_MAX}
use Rattle.transversal.proofs.Square.{row_of_entries, square_is_oa}
use Rattle.transversal.specs.Constructions.{one_rows, rows_below}

pub one_is_oa : (k : ℕ) → 2 ≤ k → IsOa (one_rows k) k 1
unfolding one_rows rows_below join_below
one_is_oa k two = square_is_oa k 1 (λ x y. list_below k (λ j. 0)) (λ x y j. 0)
    (λ x y. length-list_below k (λ j. 0))
    (λ x y j l. get_or-list_below k (λ j. 0) j 0 l)
    two (record {
      small = λ x y j lx ly l. omega arith;
      solves = λ i j a b l m la lb. (0, 0, omega arith, omega arith, omega arith, omega arith);
      unique = λ i j x y z w l m lx ly lz lw e f. (omega arith, omega arith);
    })

-- so many zeros, from the front of an array of them
abbrev pub front : ℕ → List ℕ
front k = take k (replicate TD_K_MAX 0)

zeros : (k : ℕ) → k ≤ TD_K_MAX → front k ≡ list_below k (λ j. 0)
zeros k l = take-replicate k TD_K_MAX 0 l ∙ same_number_lists (replicate k 0) (list_below k (λ j. 0)) (length-replicate {A = ℕ} k 0 ∙ sym (length-list_below k (λ j. 0))) (λ j h.
    let m : j < k = omega (arith, h, length-replicate {A = ℕ} k 0) in get_or-replicate k j 0 0 m ∙ sym (get_or-list_below k (λ j. 0) j 0 m))

pub row_of_zeros : (k : ℕ) → k ≤ TD_K_MAX → IsRow k 1 (front k)
row_of_zeros k l = subst (IsRow k 1) (sym (zeros k l)) (row_of_entries k 1 (list_below k (λ j. 0)) (length-list_below k (λ j. 0)) (λ j m. omega (arith, get_or-list_below {X = ℕ} k (λ j. 0) j 0 m)))

pub block_of_zeros : (k : ℕ) → k ≤ TD_K_MAX → blocks_of_rows k 1 (front k ∷ []) ≡ blocks_of_rows k 1 (one_rows k)
unfolding one_rows
block_of_zeros k l = ap (λ row. blocks_of_rows k 1 (row ∷ [])) (zeros k l)
