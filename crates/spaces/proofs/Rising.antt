-- The lines by their least points: the same lines, and which two points they hold so far.
use Rattle.std.proofs.Common.{List, [], ap, arith, cond, false, inl, inr, map, refl, suc, sym, true, zero, ℕ, ◌++◌, ◌+◌, ◌<◌, ◌∙◌, ◌∷◌, ◌≡◌, ◌≤◌}
use Rattle.counting.proofs.Booleans.{cases_Bool, cases_eq, le-ltb, lt-ltb}
use Rattle.std.specs.List.{sum_by}
use Rattle.std.specs.Prelude.{nat_le, nat_lt}
use Rattle.std.proofs.lemmas.List.{append-nil, append_assoc}
use Rattle.counting.proofs.Counts.{join_below_more, join_below_none, sum_below-same, sum_below-suc, sum_below-turn}
use Rattle.counting.proofs.Lists.{sum_by-join_below, sum_by-map}
use Rattle.counting.proofs.Sorting.{ordered-sort_by, same_ordered, sum_by-sort_by}
use Rattle.counting.specs.Sorting.{sort_by}
use Rattle.counting.specs.Sums.{join_below, sum_below}
use Rattle.design_base.proofs.Sorted.{lex_le-order}
use Rattle.design_base.specs.Canonical.{canonical, lex_le}
use Rattle.spaces.proofs.LeastSteps.{length-combined_line}
use Rattle.spaces.specs.Least.{are_least, least_lines, line_at, lines_from, lines_to, rising_lines}

-- a sum over the numbers below m, as one over more numbers
sum_below-shorter : (n m : ℕ) (f : ℕ → ℕ) → m ≤ n → sum_below n (λ i. cond (nat_lt i m) (f i) 0) ≡ sum_below m f
unfolding sum_below
sum_below-shorter zero m f l = ap (λ m. sum_below m f) (let e : zero ≡ m = omega arith in e)
sum_below-shorter (suc n) m f l = elim (cases_eq m (suc n)) [
  | inl e ↦ sum_below-same (suc n) _ f (λ i h. ap (λ t. cond t (f i) 0) (lt-ltb i m (omega arith))) ∙ ap (λ m. sum_below m f) (sym e)
  | inr d ↦ sum_below-suc n _ ∙ omega (arith, sum_below-shorter n m f (omega arith), ap (λ t. cond t (f n) 0) (le-ltb n m (omega arith)))
]

join_below-empty : {X : Type 0} (n : ℕ) (f : ℕ → List X) → ((i : ℕ) → i < n → f i ≡ []) → join_below n f ≡ []
unfolding join_below
join_below-empty zero f h = refl
join_below-empty (suc n) f h = ap (λ xs. xs ++ f n) (join_below-empty n f (λ i l. h i (omega arith))) ∙ h n (omega arith)

module _ (line : ℕ → ℕ → List ℕ) where
  later : ℕ → ℕ → List (List ℕ)
  later x y = cond (nat_lt x y) (line_at x y (line x y)) []

  sum_later : (f : List ℕ → ℕ) (x y : ℕ) → sum_by f (later x y) ≡ cond (nat_lt x y) (sum_by f (line_at x y (line x y))) 0
  unfolding later
  sum_later f x y = elim (cases_Bool (nat_lt x y)) [
    | inl e ↦ ap (λ t. sum_by f (cond t (line_at x y (line x y)) [])) e ∙ sym (ap (λ t. cond t (sum_by f (line_at x y (line x y))) 0) e)
    | inr e ↦ ap (λ t. sum_by f (cond t (line_at x y (line x y)) [])) e ∙ sym (ap (λ t. cond t (sum_by f (line_at x y (line x y))) 0) e)
  ]

  same_sums : (v : ℕ) (f : List ℕ → ℕ) → sum_by f (rising_lines line v v) ≡ sum_by f (least_lines line v)
  unfolding rising_lines lines_from least_lines lines_to later
  same_sums v f = sum_by-join_below f v _
      ∙ sum_below-same v _ (λ x. sum_below v (λ y. cond (nat_lt x y) (sum_by f (line_at x y (line x y))) 0)) (λ x l. sum_by-join_below f v (later x) ∙ sum_below-same v _ _ (λ y m. sum_later f x y))
      ∙ sum_below-turn v v (λ x y. cond (nat_lt x y) (sum_by f (line_at x y (line x y))) 0)
      ∙ sum_below-same v _ (λ y. sum_by f (lines_to line y y)) (λ y l. sum_below-shorter v y (λ x. sum_by f (line_at x y (line x y))) (omega arith) ∙ sym (sum_by-join_below f y (λ x. line_at x y (line x y))))
      ∙ sym (sum_by-join_below f v (λ y. lines_to line y y))

  -- in canonical form they are one list
  pub canonical_rising : (v : ℕ) → canonical (rising_lines line v v) ≡ canonical (least_lines line v)
  unfolding canonical
  canonical_rising v = same_ordered lex_le lex_le-order (canonical (rising_lines line v v)) (canonical (least_lines line v))
      (ordered-sort_by lex_le lex_le-order (map (sort_by nat_le) (rising_lines line v v))) (ordered-sort_by lex_le lex_le-order (map (sort_by nat_le) (least_lines line v)))
      (λ f. sum_by-sort_by lex_le f (map (sort_by nat_le) (rising_lines line v v)) ∙ sum_by-map f (sort_by nat_le) (rising_lines line v v) ∙ same_sums v (λ b. f (sort_by nat_le b))
      ∙ sym (sum_by-map f (sort_by nat_le) (least_lines line v)) ∙ sym (sum_by-sort_by lex_le f (map (sort_by nat_le) (least_lines line v))))

  -- ---- a point more
  pub lines_from-none : (x n : ℕ) → n ≤ x + 1 → lines_from line x n ≡ []
  unfolding lines_from
  lines_from-none x n l = join_below-empty n _ (λ y m. ap (λ t. cond t (line_at x y (line x y)) []) (le-ltb x y (omega arith)))

  pub lines_from-taken : (x y : ℕ) → x < y → are_least x y (line x y) ≡ true → lines_from line x (y + 1) ≡ lines_from line x y ++ line x y ∷ []
  unfolding lines_from
  lines_from-taken x y l e = join_below_more y _ ∙ ap (λ t. lines_from line x y ++ cond t (line_at x y (line x y)) []) (lt-ltb x y l) ∙ ap (λ t. lines_from line x y ++ cond t (line x y ∷ []) []) e

  pub lines_from-left : (x y : ℕ) → x < y → are_least x y (line x y) ≡ false → lines_from line x (y + 1) ≡ lines_from line x y
  unfolding lines_from
  lines_from-left x y l e = join_below_more y _ ∙ ap (λ t. lines_from line x y ++ cond t (line_at x y (line x y)) []) (lt-ltb x y l) ∙ ap (λ t. lines_from line x y ++ cond t (line x y ∷ []) []) e ∙ append-nil (lines_from line x y)

  pub rising_lines-none : (v : ℕ) → rising_lines line v 0 ≡ []
  unfolding rising_lines
  rising_lines-none v = join_below_none _

  pub rising_lines-more : (v x : ℕ) → rising_lines line v (x + 1) ≡ rising_lines line v x ++ lines_from line x v
  unfolding rising_lines
  rising_lines-more v x = join_below_more x _

pub ruleset rising_steps = (append-nil, append_assoc, lines_from-none, rising_lines-none, rising_lines-more, length-combined_line)
