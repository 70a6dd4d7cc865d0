-- In an orthogonal array exactly one row begins with x and y.
use Rattle.std.proofs.Common.{List, [], ap, arith, get_or, length, refl, sym, true, ℕ, ◌*◌, ◌<◌, ◌∙◌, ◌≡◌, ◌≤◌}
use Rattle.std.proofs.lemmas.List.Sums.{passes_at_first}
use Rattle.std.specs.List.{sum_by}
use Rattle.counting.proofs.Booleans.{both_equal, both_equal-from}
use Rattle.counting.proofs.Counts.{grid_one, one-false, one-true, sum_below-mul, sum_below-same}
use Rattle.counting.proofs.Lists.{sum_by-agree, sum_by-sum_below}
use Rattle.counting.proofs.OnePlace.{one_place, some_place, sum_at}
use Rattle.counting.specs.Sums.{one, sum_below}
use Rattle.design_base.proofs.Rows.{agree-is}
use Rattle.design_base.specs.Arrays.{IsOa, IsRow}
use Rattle.arrays.specs.Arrays.{begins_with, place_at, row_at}

pub row_at-is : (R : List (List ℕ)) (x y : ℕ) → row_at R x y ≡ get_or R (place_at R x y) []
unfolding row_at
row_at-is R x y = refl

module _ (k n : ℕ) (R : List (List ℕ)) (oa : IsOa R k n) (two : 2 ≤ k) where
  once : (x y : ℕ) → x < n → y < n → sum_by (λ r. one (begins_with x y r)) R ≡ 1
  once x y l m = sym (agree-is R 0 1 x y) ∙ oa.pairs 0 1 x y (omega arith) (omega arith) l m

  pub place_at-below : (x y : ℕ) → x < n → y < n → place_at R x y < length R
  unfolding place_at
  place_at-below x y l m = some_place (begins_with x y) R (once x y l m)

  begins_at : (x y : ℕ) → x < n → y < n → begins_with x y (get_or R (place_at R x y) []) ≡ true
  unfolding place_at
  begins_at x y l m = passes_at_first (begins_with x y) R [] (place_at-below x y l m)

  -- no other row does
  pub place_at_is : (x y i : ℕ) → x < n → y < n → i < length R → begins_with x y (get_or R i []) ≡ true → i ≡ place_at R x y
  place_at_is x y i l m h e = one_place (begins_with x y) R i (place_at R x y) [] (once x y l m) h (place_at-below x y l m) e (begins_at x y l m)

  pub row_at-begins : (x y : ℕ) → x < n → y < n → (get_or (row_at R x y) 0 0 ≡ x) × (get_or (row_at R x y) 1 0 ≡ y)
  row_at-begins x y l m = rw (row_at-is R x y) (both_equal (get_or (get_or R (place_at R x y) []) 0 0) (get_or (get_or R (place_at R x y) []) 1 0) x y (begins_at x y l m))

  pub row_at_row : (x y : ℕ) → x < n → y < n → IsRow k n (row_at R x y)
  row_at_row x y l m = rw (row_at-is R x y) (oa.rows (place_at R x y) [] (place_at-below x y l m))

  -- a sum over the rows that begin with x and y has one term
  only_at : (f : List ℕ → ℕ) (x y : ℕ) → x < n → y < n → sum_by (λ r. one (begins_with x y r) * f r) R ≡ f (row_at R x y)
  only_at f x y l m = sum_at (begins_with x y) (λ r. one (begins_with x y r) * f r) R (place_at R x y) [] (place_at-below x y l m)
      (λ i h ne. ap (λ t. t * f (get_or R i [])) (one-false _ (λ e. ne (place_at_is x y i l m h e))) ∙ omega arith)
      ∙ ap (λ t. t * f (get_or R (place_at R x y) [])) (one-true _ (begins_at x y l m)) ∙ omega arith ∙ ap f (sym (row_at-is R x y))

  shared_out : (r : List ℕ) → IsRow k n r → (c : ℕ) → sum_below n (λ x. sum_below n (λ y. one (begins_with x y r) * c)) ≡ c
  shared_out r s c = sum_below-same n _ (λ x. c * sum_below n (λ y. one (begins_with x y r))) (λ x l. sum_below-same n _ (λ y. c * one (begins_with x y r)) (λ y m. omega arith) ∙ sum_below-mul n c (λ y. one (begins_with x y r)))
      ∙ sum_below-mul n c (λ x. sum_below n (λ y. one (begins_with x y r)))
      ∙ ap (λ t. c * t) (grid_one n n (get_or r 0 0) (get_or r 1 0) (λ x y. begins_with x y r) (s.below 0 0 (omega (arith, s.size))) (s.below 1 0 (omega (arith, s.size)))
      (both_equal-from (get_or r 0 0) (get_or r 1 0) _ _ refl refl) (λ x y l m e. let h = both_equal (get_or r 0 0) (get_or r 1 0) x y e in (sym h.0, sym h.1)))
      ∙ omega arith

  -- so a sum over the rows is one over the grid
  pub over_grid : (f : List ℕ → ℕ) → sum_by f R ≡ sum_below n (λ x. sum_below n (λ y. f (row_at R x y)))
  over_grid f = sum_by-agree (IsRow k n) f (λ r. sum_below n (λ x. sum_below n (λ y. one (begins_with x y r) * f r))) R oa.rows (λ r s. sym (shared_out r s (f r)))
      ∙ sum_by-sum_below (λ x r. sum_below n (λ y. one (begins_with x y r) * f r)) n R
      ∙ sum_below-same n _ (λ x. sum_below n (λ y. f (row_at R x y))) (λ x l. sum_by-sum_below (λ y r. one (begins_with x y r) * f r) n R ∙ sum_below-same n _ (λ y. f (row_at R x y)) (λ y m. only_at f x y l m))
