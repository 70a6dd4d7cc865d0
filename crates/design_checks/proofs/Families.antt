-- Differences from the covers of the pairs: d is the difference of x and x + d wherever both stand together.
use Rattle.std.proofs.Common.{List, [], add-one, ap, arith, cond, get_or, length, refl, sym, ℕ, ◌&&◌, ◌*◌, ◌+◌, ◌<◌, ◌==◌, ◌∙◌, ◌∷◌, ◌≡◌, ◌≢◌, ◌≤◌}
use Rattle.counting.proofs.Booleans.{eqb-turn}
use Rattle.std.proofs.lemmas.List.Elements.{All-weaker, recursion_from_All}
use Rattle.std.proofs.lemmas.List.Sums.{sum_by-cons, sum_by-le}
use Rattle.std.specs.List.{AllByRecursion, count_by, sum_by}
use Rattle.std.specs.Prelude.{All}
use Rattle.counting.proofs.Counts.{one-most, sum_below-same}
use Rattle.counting.proofs.Lists.{each_all, one-and, sum_by-agree, sum_by-same, sum_by-sum_below}
use Rattle.counting.specs.Sums.{one, sum_below}
use Rattle.design_base.proofs.Canonical.{Rises, differs_from_rises, rises_from_increasing}
use Rattle.design_base.proofs.Cover.{cover-is}
use Rattle.design_base.proofs.Points.{one-holds, sum_set}
use Rattle.design_base.specs.Blocks.{cover, differences, holds}
use Rattle.design_base.specs.Meets.{GroupAt, group_add}
use Rattle.design_base.specs.declared.query.Group.{Group}
use Rattle.field_tables.proofs.AnyGroup.{group_cancel}
use Rattle.field_tables.proofs.GroupSums.{group_sums}
use Rattle.incidence.specs.Packed.{size_of}
use Rattle.design_checks.specs.Counts.{IsRowOf}

-- a loop's step: one term more
pub sum_more : (n : ℕ) (f : ℕ → ℕ) → sum_below (n + 1) f ≡ sum_below n f + f n
unfolding sum_below
sum_more n f = rw add-one refl

-- y stands once or not at all in a row
times_held : (y : ℕ) (row : List ℕ) → Rises row → count_by (λ z. y == z) row ≡ one (holds y row)
unfolding one
times_held y row r = sum_by-same (λ z. cond (y == z) 1 0) (λ z. cond (z == y) 1 0) row (each_all _ (λ z. ap (λ t. cond t 1 0) (eqb-turn y z)) row) ∙ sym (one-holds y row (differs_from_rises row r))

module _ (v : ℕ) (add : ℕ → ℕ → ℕ) (d : ℕ) where
  row_differences : (row : List ℕ) → IsRowOf v row → sum_by (λ x. count_by (λ y. add x d == y) row) row ≡ sum_below v (λ x. one (holds x row && holds (add x d) row))
  row_differences row is = let r = rises_from_increasing row is.rises in
      sum_set v (λ x. count_by (λ y. add x d == y) row) row (differs_from_rises row r) (recursion_from_All (λ x. x < v) row is.below)
      ∙ sum_below-same v _ (λ x. one (holds x row && holds (add x d) row))
      (λ x l. ap (λ n. n * one (holds x row)) (times_held (add x d) row r) ∙ omega (arith, one-and (holds x row) (holds (add x d) row)))

  pub differences-covers : (B : List (List ℕ)) → All (IsRowOf v) B → differences add B d ≡ sum_below v (λ x. cover B x (add x d))
  unfolding differences
  differences-covers B rows =
      sum_by-agree (IsRowOf v) (λ b. sum_by (λ x. count_by (λ y. add x d == y) b) b) (λ b. sum_below v (λ x. one (holds x b && holds (add x d) b))) B rows row_differences
      ∙ sum_by-sum_below (λ x b. one (holds x b && holds (add x d) b)) v B
      ∙ sum_below-same v _ (λ x. cover B x (add x d)) (λ x l. sym (cover-is B x (add x d)))

  -- each point of a row begins one difference at most
  row_few : (row : List ℕ) → IsRowOf v row → sum_by (λ x. count_by (λ y. add x d == y) row) row ≤ length row
  row_few row is = let r = rises_from_increasing row is.rises in
      omega (arith, sum_by-le (λ x. count_by (λ y. add x d == y) row) 1 row (λ i e l. omega (arith, times_held (add (get_or row i e) d) row r, one-most (holds (add (get_or row i e) d) row))))

  few : (B : List (List ℕ)) → AllByRecursion (λ b. sum_by (λ x. count_by (λ y. add x d == y) b) b ≤ length b) B → differences add B d ≤ sum_by length B
  unfolding differences
  few [] h = omega arith
  few (b ∷ B) h = omega (arith, sum_by-cons (λ b. sum_by (λ x. count_by (λ y. add x d == y) b) b) b B, sum_by-cons length b B, few B h.1, h.0)

  pub differences-few : (B : List (List ℕ)) → All (IsRowOf v) B → differences add B d ≤ size_of B
  differences-few B rows = omega (arith, few B (recursion_from_All _ B (All-weaker (IsRowOf v) (λ b. sum_by (λ x. count_by (λ y. add x d == y) b) b ≤ length b) row_few B rows)))

-- x and x + d are two elements
pub moved : (group : Group) (v x d : ℕ) → GroupAt group v → 0 < d → d < v → x < v → x ≢ group_add group v x d
moved group v x d g pos l m e = let sums = group_sums group v (omega arith) g in
    absurd (omega (arith, group_cancel v (group_add group v) sums x d 0 l (omega arith) (sym e ∙ sym (sums.zero_neutral x m))))
