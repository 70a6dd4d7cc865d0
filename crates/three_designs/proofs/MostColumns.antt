-- An array of strength three with n >= 2 symbols has at most n + 2 columns: the rows that begin with 0 are an array of strength
-- two, without their first column.
use Rattle.std.proofs.Common.{Bool, List, ap₂, arith, get_or, map, suc, sym, zero, ℕ, ◌&&◌, ◌<◌, ◌==◌, ◌∙◌, ◌≡◌, ◌≤◌}
use Rattle.std.proofs.lemmas.List.Elements.{All-from_recursion, recursion_from_All}
use Rattle.std.specs.Prelude.{All, filter}
use Rattle.counting.proofs.Lists.{All-map_of, all_filter, each_all, one-and, sum_by-map, sum_by-same}
use Rattle.counting.proofs.OnePlace.{filter_sum}
use Rattle.counting.proofs.Ranges.{each_below, get_or-list_below, length-list_below}
use Rattle.counting.specs.Sums.{list_below, one}
use Rattle.criteria.proofs.Bound.{columns_bound}
use Rattle.design_base.proofs.Rows.{agree-is, oa_from_pairs, symbol_below}
use Rattle.design_base.specs.Arrays.{IsOa, IsRow, agree}
use Rattle.three_designs.specs.Laws.{ColumnsLaw}
use Rattle.three_designs.specs.StrengthThree.{IsOa3, agree_in_three}
use Rattle.three_designs.proofs.Cubes.{agree_in_three-is}

module _ (m n : ℕ) (R : List (List ℕ)) (pos : 0 < n) (two : 2 ≤ m) (oa : IsOa3 R (suc m) n) where
  rest : List ℕ → List ℕ
  rest r = list_below m (λ j. get_or r (suc j) 0)

  begins : List ℕ → Bool
  begins r = get_or r 0 0 == 0

  derived : List (List ℕ)
  derived = map rest (filter begins R)

  rows_kept : All (IsRow (suc m) n) (filter begins R)
  rows_kept = All-from_recursion (IsRow (suc m) n) _ (all_filter (IsRow (suc m) n) (IsRow (suc m) n) begins (λ r s e. s) R (recursion_from_All (IsRow (suc m) n) R oa.rows))

  rows_derived : All (IsRow m n) derived
  unfolding derived rest
  rows_derived = All-map_of (IsRow (suc m) n) (IsRow m n) rest (filter begins R) rows_kept (λ r s. record {
    size = length-list_below m (λ j. get_or r (suc j) 0);
    below = All-from_recursion (λ a. a < n) _ (each_below (λ a. a < n) m (λ j. get_or r (suc j) 0) (λ j l. symbol_below (suc m) n r s (suc j) (omega arith)));
  })

  agree-derived : (i j a b : ℕ) → i < m → j < m → agree derived i j a b ≡ agree_in_three R 0 (suc i) (suc j) 0 a b
  unfolding derived rest begins
  agree-derived i j a b l h = agree-is derived i j a b
      ∙ sum_by-map (λ r. one ((get_or r i 0 == a) && (get_or r j 0 == b))) rest (filter begins R)
      ∙ sum_by-same _ (λ r. one ((get_or r (suc i) 0 == a) && (get_or r (suc j) 0 == b))) (filter begins R) (each_all _ (λ r.
      ap₂ (λ s t. one ((s == a) && (t == b))) (get_or-list_below m (λ j. get_or r (suc j) 0) i 0 l) (get_or-list_below m (λ j. get_or r (suc j) 0) j 0 h)) (filter begins R))
      ∙ filter_sum begins (λ r. one ((get_or r (suc i) 0 == a) && (get_or r (suc j) 0 == b))) R
      ∙ sum_by-same _ _ R (each_all _ (λ r. sym (one-and (get_or r 0 0 == 0) ((get_or r (suc i) 0 == a) && (get_or r (suc j) 0 == b)))) R)
      ∙ sym (agree_in_three-is R 0 (suc i) (suc j) 0 a b)

  derived_is_oa : IsOa derived m n
  derived_is_oa = oa_from_pairs m n derived two rows_derived (λ i j a b l h la lb. agree-derived i j a b (omega arith) h ∙ oa.triples 0 (suc i) (suc j) 0 a b (omega arith) (omega arith) (omega arith) pos la lb)

pub most_columns : ColumnsLaw
most_columns R zero n three two oa = omega arith
most_columns R (suc m) n three two oa = omega (arith, columns_bound m n _ (omega arith) two (derived_is_oa m n R (omega arith) (omega arith) oa))
