-- The rows of an orthogonal array in lexicographic order are those that begin with 0 0, 0 1, .., 1 0, ..
use Rattle.std.proofs.Common.{List, [], ap₂, arith, get_or, length, suc, sym, true, ℕ, ◌*◌, ◌+◌, ◌<◌, ◌∙◌, ◌∷◌, ◌≡◌, ◌≤◌}
use Rattle.std.proofs.lemmas.Bool.Decides.{nat_tests}
use Rattle.std.specs.List.{sum_by}
use Rattle.counting.proofs.Counts.{sum_below-same}
use Rattle.counting.proofs.Lists.{sum_by-join_below, sum_by-single}
use Rattle.counting.proofs.Ranges.{get_or-list_below, length-list_below}
use Rattle.counting.proofs.Sorting.{ordered_from_neighbours, ordered-sort_by, same_ordered, sum_by-sort_by}
use Rattle.counting.specs.Sorting.{Ordered, sort_by}
use Rattle.counting.specs.Sums.{join_below, list_below, sum_below}
use Rattle.design_base.proofs.Places.{by_places}
use Rattle.design_base.proofs.Sorted.{lex_le-order}
use Rattle.design_base.specs.Arrays.{IsOa, place}
use Rattle.design_base.specs.Canonical.{lex_le}
use Rattle.arrays.specs.Arrays.{row_at}
use Rattle.arrays.proofs.Cells.{over_grid, row_at-begins, row_at_row}
use Rattle.arrays.proofs.Joined.{get_or-join_below, length-join_below}

-- the rows that begin with 0 0, 0 1, .., 1 0, ..
unfoldable pub by_cells : ℕ → List (List ℕ) → List (List ℕ)
by_cells n R = join_below n (λ x. list_below n (λ y. row_at R x y))

pub length-by_cells : (n : ℕ) (R : List (List ℕ)) → length (by_cells n R) ≡ n * n
unfolding by_cells
length-by_cells n R = length-join_below n n _ (λ x l. length-list_below n (λ y. row_at R x y))

pub get_or-by_cells : (n : ℕ) (R : List (List ℕ)) (x y : ℕ) (d : List ℕ) → x < n → y < n → get_or (by_cells n R) (x * n + y) d ≡ row_at R x y
unfolding by_cells
get_or-by_cells n R x y d l m = get_or-join_below n n x y _ d (λ x l. length-list_below n (λ y. row_at R x y)) l m ∙ get_or-list_below n (λ y. row_at R x y) y d m

sum_by-by_cells : (f : List ℕ → ℕ) (n : ℕ) (R : List (List ℕ)) → sum_by f (by_cells n R) ≡ sum_below n (λ x. sum_below n (λ y. f (row_at R x y)))
unfolding by_cells
sum_by-by_cells f n R = sum_by-join_below f n (λ x. list_below n (λ y. row_at R x y))
    ∙ sum_below-same n _ (λ x. sum_below n (λ y. f (row_at R x y))) (λ x l. sum_by-join_below f n (λ y. row_at R x y ∷ [])
    ∙ sum_below-same n _ (λ y. f (row_at R x y)) (λ y m. sum_by-single f (row_at R x y)))

-- rows are in the order of their first two numbers
lex_by_first : (a b : List ℕ) → 1 ≤ length a → 1 ≤ length b → get_or a 0 0 < get_or b 0 0 → lex_le a b ≡ true
unfolding lex_le
lex_by_first [] b h g l = absurd (omega arith)
lex_by_first (x ∷ a) [] h g l = absurd (omega arith)
lex_by_first (x ∷ a) (y ∷ b) h g l = grind (arith, nat_tests)

lex_by_second : (a b : List ℕ) → 2 ≤ length a → 2 ≤ length b → get_or a 0 0 ≡ get_or b 0 0 → get_or a 1 0 < get_or b 1 0 → lex_le a b ≡ true
unfolding lex_le
lex_by_second [] b h g e l = absurd (omega arith)
lex_by_second (x ∷ a) [] h g e l = absurd (omega arith)
lex_by_second (x ∷ a) (y ∷ b) h g e l = let r = lex_by_first a b (omega arith) (omega arith) l in grind (arith, nat_tests)

module _ (k n : ℕ) (R : List (List ℕ)) (oa : IsOa R k n) (two : 2 ≤ k) (pos : 0 < n) where
  long : (x y : ℕ) → x < n → y < n → 2 ≤ length (row_at R x y)
  long x y l m = omega (arith, (row_at_row k n R oa two x y l m).size)

  apart : (c d x y : ℕ) → c < d → d < n → x < n → y < n → lex_le (row_at R c x) (row_at R d y) ≡ true
  apart c d x y w l h g = lex_by_first (row_at R c x) (row_at R d y) (omega (arith, long c x (omega arith) h)) (omega (arith, long d y l g))
      (omega (arith, row_at-begins k n R oa two c x (omega arith) h, row_at-begins k n R oa two d y l g))

  inside : (c x y : ℕ) → c < n → x < y → y < n → lex_le (row_at R c x) (row_at R c y) ≡ true
  inside c x y l w g = lex_by_second (row_at R c x) (row_at R c y) (long c x l (omega arith)) (long c y l g)
      (omega (arith, row_at-begins k n R oa two c x l (omega arith), row_at-begins k n R oa two c y l g))
      (omega (arith, row_at-begins k n R oa two c x l (omega arith), row_at-begins k n R oa two c y l g))

  ordered-by_cells : Ordered lex_le (by_cells n R)
  unfolding place
  ordered-by_cells = ordered_from_neighbours lex_le lex_le-order (by_cells n R) (λ i d l.
      by_places (λ p q. lex_le (get_or (by_cells n R) p d) (get_or (by_cells n R) q d) ≡ true) n n pos
      (λ c e x y w l h g. ap₂ lex_le (get_or-by_cells n R c x d (omega arith) h) (get_or-by_cells n R e y d l g) ∙ apart c e x y w l h g)
      (λ c x y l w g. ap₂ lex_le (get_or-by_cells n R c x d l (omega arith)) (get_or-by_cells n R c y d l g) ∙ inside c x y l w g)
      i (suc i) (omega arith) (omega (arith, length-by_cells n R)))

  pub sort_by-is : sort_by lex_le R ≡ by_cells n R
  sort_by-is = sym (same_ordered lex_le lex_le-order (by_cells n R) (sort_by lex_le R) ordered-by_cells (ordered-sort_by lex_le lex_le-order R)
      (λ f. sum_by-by_cells f n R ∙ sym (over_grid k n R oa two f) ∙ sym (sum_by-sort_by lex_le f R)))
